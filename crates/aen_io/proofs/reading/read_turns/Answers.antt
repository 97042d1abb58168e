use Rattle.std.proofs.Common.{arith, ◌≡◌, ◌+◌, ◌≤◌, ◌∙◌, length, take, length-take, refl, ap, sym, vec_len}
use Rattle.aen_io.specs.Handed.{since}
use Rattle.aen_io.specs.Reading.{IsCause}
use Rattle.aen_io.proofs.Fronts.{front_empty, front_turn, front_end, front_long, has_room}
use Rattle.aen_io.proofs.Logs.{nothing_read, read_more, read_whole, reads_next, calls_next, reads_after, calls_after}
use Rattle.aen_io.proofs.Rising.{cause_of_fault, err_of}
use Rattle.aen_io.proofs.reading.read_turns.Goals as goal

pub loop-whole-init : goal.loop-whole-init
loop-whole-init g c =
    let none = ap length c.requires.empty in
    record {
      most = refl;
      within = omega (arith, c.args.whole.now.ok.0, none);
      kept = refl;
      later = omega arith;
      reads = nothing_read c.args.name.now (g.F.Files.handed c.args.files.now) c.args.whole.now.items c.requires.empty;
      front = front_empty (g.F.Files.told c.args.files.now) c.args.name.now c.args.whole.now.items c.requires.empty;
    }

pub loop-whole-preserved : goal.loop-whole-preserved
loop-whole-preserved g c =
    let here = c.loop-whole.invariant in
    let ok = c.in_ok-n.ensures in
    let more : length c.read_more.new.whole.items ≡ length c.loop-whole.whole.items + c.in_ok-n.n =
    omega (arith, ok.more, c.read_more.new.whole.ok.0, c.loop-whole.whole.ok.0) in
    record {
      most = refl;
      within = omega (arith, ok.more, ok.bound, length-take c.min-asked.result c.loop-whole.buf, c.min-asked.ensures, c.len.ensures, c.len-in-loop-whole.ensures, c.loop-whole-test.true);
      kept = ok.kept ∙ here.kept;
      later = omega (arith, ok.later, here.later);
      reads = read_more c.args.name.now (g.F.Files.handed c.args.files.now) (g.F.Files.handed c.loop-whole.files) (g.F.Files.handed c.read_more.new.files)
          c.in_ok-n.n c.loop-whole.whole.items c.read_more.new.whole.items here.reads ok.call (omega (arith, c.if-n-eq0.false));
      front = front_turn (g.F.Files.told c.args.files.now) (g.F.Files.told c.loop-whole.files) c.args.name.now c.in_ok-n.n
          (length (take c.min-asked.result c.loop-whole.buf)) c.loop-whole.whole.items c.read_more.new.whole.items
          here.kept more here.front ok.bytes;
    }

pub returns-then-n-eq0-clause-content : goal.returns-then-n-eq0-clause-content
returns-then-n-eq0-clause-content g c =
    let here = c.loop-whole.invariant in
    let ok = c.in_ok-n.ensures in
    let room = has_room c.min-asked.result c.loop-whole.buf
    (omega (arith, c.min-asked.ensures, c.len.ensures, c.len-in-loop-whole.ensures, c.loop-whole-test.true, c.requires.room))
    (omega (arith, c.min-asked.ensures)) in
    front_end (g.F.Files.told c.args.files.now) (g.F.Files.told c.loop-whole.files) c.args.name.now c.in_ok-n.n
    (length (take c.min-asked.result c.loop-whole.buf)) c.loop-whole.whole.items c.read_more.new.whole.items
    here.kept c.if-n-eq0.true room here.front ok.bytes

pub returns-then-n-eq0-clause-whole : goal.returns-then-n-eq0-clause-whole
returns-then-n-eq0-clause-whole g c =
    read_whole c.args.name.now (g.F.Files.handed c.args.files.now) (g.F.Files.handed c.loop-whole.files) (g.F.Files.handed c.read_more.new.files)
    c.in_ok-n.n c.loop-whole.whole.items c.read_more.new.whole.items c.loop-whole.invariant.reads c.in_ok-n.ensures.call c.if-n-eq0.true

pub returns-then-n-eq0-clause-reads : goal.returns-then-n-eq0-clause-reads
returns-then-n-eq0-clause-reads g c =
    reads_next c.args.name.now (g.F.Files.handed c.args.files.now) (g.F.Files.handed c.loop-whole.files) (g.F.Files.handed c.read_more.new.files)
    c.loop-whole.whole.items c.in_ok-n.ensures.call.bytes c.loop-whole.invariant.reads c.in_ok-n.ensures.call.call

pub returns-then-n-eq0-clause-calls : goal.returns-then-n-eq0-clause-calls
returns-then-n-eq0-clause-calls g c =
    let few = calls_next c.args.name.now (g.F.Files.handed c.args.files.now) (g.F.Files.handed c.loop-whole.files) (g.F.Files.handed c.read_more.new.files)
    c.loop-whole.whole.items c.in_ok-n.ensures.call.bytes c.loop-whole.invariant.reads c.in_ok-n.ensures.call.call in
    omega (arith, few, c.loop-whole.invariant.most, c.loop-whole.whole.ok.0, c.len.ensures, c.loop-whole-test.true)

pub returns-in_err-n-clause-reads : goal.returns-in_err-n-clause-reads
returns-in_err-n-clause-reads g c =
    reads_after c.args.name.now (g.F.Files.handed c.args.files.now) (g.F.Files.handed c.loop-whole.files) (g.F.Files.handed c.read_more.new.files)
    c.loop-whole.whole.items c.in_err-n.field-0.0 _ _ _ _ c.loop-whole.whole.ok.0 c.loop-whole.invariant.reads c.in_err-n.ensures.cause

pub returns-in_err-n-clause-calls : goal.returns-in_err-n-clause-calls
returns-in_err-n-clause-calls g c =
    let few = calls_after c.args.name.now (g.F.Files.handed c.args.files.now) (g.F.Files.handed c.loop-whole.files) (g.F.Files.handed c.read_more.new.files)
    c.loop-whole.whole.items c.in_err-n.field-0.0 _ _ _ _ c.loop-whole.whole.ok.0 c.loop-whole.invariant.reads c.in_err-n.ensures.cause in
    omega (arith, few, c.loop-whole.invariant.most, c.loop-whole.whole.ok.0, c.len.ensures, c.loop-whole-test.true)

pub returns-in_err-n-clause-cause : goal.returns-in_err-n-clause-cause
returns-in_err-n-clause-cause g c =
    let here = c.loop-whole.invariant in
    let few : length c.loop-whole.whole.items ≤ c.args.limit = omega (arith, here.most, c.loop-whole.whole.ok.0, c.len.ensures, c.loop-whole-test.true) in
    let P = IsCause (g.F.Files.told c.args.files.now) c.args.name.now c.args.limit (since (g.F.Files.handed c.args.files.now) (g.F.Files.handed c.read_more.new.files))
    (g.F.Files.faults c.args.files.now) (g.F.Files.faults c.read_more.new.files) in
    err_of c.from_residual.result c.in_err-n.field-0.0 P c.from_residual.ensures.1
    (cause_of_fault (g.F.Files.told c.args.files.now) (g.F.Files.told c.loop-whole.files) c.args.name.now c.args.limit (vec_len c.loop-whole.whole)
    (g.F.Files.handed c.args.files.now) (g.F.Files.handed c.loop-whole.files) (g.F.Files.handed c.read_more.new.files) c.loop-whole.whole.items
    (g.F.Files.faults c.args.files.now) (g.F.Files.faults c.loop-whole.files) (g.F.Files.faults c.read_more.new.files)
    c.in_err-n.field-0.0 here.kept here.later here.reads.joined_is few c.in_err-n.ensures.cause)

pub returns-clause-cause : goal.returns-clause-cause
returns-clause-cause g c =
    let here = c.loop-whole.invariant in
    let long : length c.loop-whole.whole.items ≡ c.args.limit + 1 = omega (arith, here.within, c.loop-whole.whole.ok.0, c.len.ensures, c.loop-whole-test.false) in
    (refl, ap length (sym here.reads.joined_is) ∙ long, front_long (g.F.Files.told c.args.files.now) c.args.name.now c.args.limit c.loop-whole.whole.items long here.front)

pub returns-clause-reads : goal.returns-clause-reads
returns-clause-reads g c = c.loop-whole.invariant.reads.reads

pub returns-clause-calls : goal.returns-clause-calls
returns-clause-calls g c =
    let here = c.loop-whole.invariant in
    let few = here.reads.calls in
    omega (arith, few, here.most, here.within, c.loop-whole.whole.ok.0)
