-- A spelled program whose types fit: what lowering, machines and loan rules rely on. It goes by cases on
-- the spelled tree alone, without expected types, faults and states.
use Rattle.std.specs.List.{All, list_all}
use Rattle.std.specs.Prelude.{ℕ, nat_lt, None, Bool, true, false, not, ◌&&◌, ◌||◌, if◌then◌else◌, Option, Some, List, [], ◌∷◌, length, map, slice_get, is_none, ◌≡◌, ⊤}
use Rattle.aen_base.specs.Numbers.{in_range}
use Rattle.core_ty.specs.Shape.{is_copy}
use Rattle.core_ty.specs.declared.decl.Sig.{Sig}
use Rattle.core_ty.specs.declared.decl.TypeDecl.{TypeDecl}
use Rattle.rust_ast.specs.declared.spelling.Spelled.{Spelled}
use Rattle.type_rules.specs.Branches.{is_behind, patterns_of, scrutinee_type}
use Rattle.type_rules.specs.Coverage.{is_covered}
use Rattle.type_rules.specs.FitsCalls.{Built, CallFits, sig_of}
use Rattle.type_rules.specs.FitsPatterns.{NamesFit, PatFits}
use Rattle.type_rules.specs.Frames.{Around, Found, Frame, Same, Sound, boxed_in, in_loop, is_exclusive, loop_around, part_at, place_type}
use Rattle.type_rules.specs.SoundTypes.{is_sound}
use Rattle.type_rules.specs.TypesInBodies.{numbers}
use Rattle.type_rules.specs.Signatures.{positions_in}
use Rattle.core_ty.specs.declared.places.Position.{Position}
use Rattle.core_ty.specs.declared.decl.Variant.{Variant}
use Rattle.aen_base.specs.declared.operators.BinOp.{BinOp}
use Rattle.type_rules.specs.Operands.{tuple_type}
use Rattle.type_rules.specs.Operators.{compares_type, is_shift, takes_type}
use Rattle.type_rules.specs.Places.{goes_through, never_ends, type_of}
use Rattle.type_rules.specs.TypeFacts.{has_reference, is_integer, is_integer_or_bool, is_signed_integer, same}
use Rattle.rust_ast.specs.Spelled as s
use Rattle.rust_ast.specs.declared.spelling.Function as spelled
use Rattle.core_ty.specs.Types as t

-- & or &mut of a place of this type
abbrev pub Lends : Bool → Option t.Ty → t.Ty → Type 0
Lends m o (t.ref r true x) = (m ≡ true) × Found o x × (has_reference x ≡ false)
Lends m o (t.ref r false x) = (m ≡ false) × Found o x × (has_reference x ≡ false)
Lends m o x = ⊥

-- where `&mut` is taken, no shared reference is gone through
abbrev pub may_lend : Frame → Bool → s.Place → Bool
may_lend c m p = not m || is_exclusive c p

-- an operator with `=` at a place of this type, with a value of that type
abbrev pub Updates : BinOp → t.Ty → t.Ty → Type 0
Updates op x y = (takes_type op x ≡ true) × ((if is_shift op then is_integer y else same x y) ≡ true)

-- a value of this type goes wherever this type is asked for; what never ends goes everywhere
abbrev pub Goes : s.Val → t.Ty → Type 0
Goes v x = (never_ends v || same (type_of v) x) ≡ true

-- a `break` of a loop that is known to have one, with a value of its type
abbrev pub BreakFits : Option Around → t.Ty → Type 0
BreakFits None x = ⊥
BreakFits (Some l) x = Same l.ty x × (l.broken ≡ true)

-- all arms never end
abbrev pub none_ends : s.Arms → Bool
none_ends s.no_arms = true
none_ends (s.more_arms p v rest) = never_ends v && none_ends rest

abbrev pub block_type : s.Block → t.Ty
block_type (s.block x never p ss l) = x

abbrev pub block_never : s.Block → Bool
block_never (s.block x never p ss l) = never

-- a statement after which the block never goes on
abbrev pub stops : s.Stmts → Bool
stops s.no_stmts = false
stops (s.more_stmts (s.run v) rest) = never_ends v || stops rest
stops (s.more_stmts (s.put p k v) rest) = never_ends v || stops rest
stops (s.more_stmts (s.pass p v) rest) = never_ends v || stops rest
stops (s.more_stmts (s.open_up p (s.held v) x) rest) = never_ends v || stops rest
stops (s.more_stmts (s.open_up p (s.stands y r z) x) rest) = stops rest
stops (s.more_stmts (s.later p ks) rest) = stops rest

abbrev mutual
  pub ValFits : Frame → s.Val → Type 0
  ValFits c (s.value x never p n) = Sound c x × NodeFits c x never n

  -- a node gives a value of type x, or never ends
  pub NodeFits : Frame → t.Ty → Bool → s.Form → Type 0
  NodeFits c x never (s.number n) = (never ≡ false) × Same (t.int n.ty) x × (in_range n.ty n.value ≡ true)
  NodeFits c x never (s.truth b) = (never ≡ false) × Same t.bool x
  NodeFits c x never (s.tuple vs) = (never ≡ false) × Same (tuple_type vs) x × ValuesFit c vs
  NodeFits c x never (s.construct d v parts) = (never ≡ false) × Built c d.0 v parts x × AllParts c parts
  NodeFits c x never (s.use_of p copies) =
      (never ≡ false) × PlaceFits c p × Found (place_type c p) x × (copies ≡ is_copy x) × ((copies || not (goes_through p)) ≡ true)
  NodeFits c x never (s.field_of v k copies) =
      (never ≡ false) × ValFits c v × Found (part_at c.decls (type_of v) k) x × (copies ≡ is_copy x)
  NodeFits c x never (s.unbox_of v copies) =
      (never ≡ false) × ValFits c v × Found (boxed_in (Some (type_of v))) x × (copies ≡ is_copy x)
  NodeFits c x never (s.borrow m p) = (never ≡ false) × PlaceFits c p × Lends m (place_type c p) x × (may_lend c m p ≡ true)
  NodeFits c x never (s.minus v) = (never ≡ false) × ValFits c v × Same (type_of v) x × (is_signed_integer x ≡ true)
  NodeFits c x never (s.negation v) = (never ≡ false) × ValFits c v × Same (type_of v) x × (is_integer_or_bool x ≡ true)
  NodeFits c x never (s.binary op a b) =
      (never ≡ false) × ValFits c a × ValFits c b × Same (type_of a) x × (takes_type op x ≡ true)
      × ((if is_shift op then is_integer (type_of b) else same (type_of b) x) ≡ true)
  NodeFits c x never (s.compare op a b) =
      (never ≡ false) × ValFits c a × ValFits c b × Same t.bool x × Same (type_of a) (type_of b) × (compares_type op (type_of a) ≡ true)
  NodeFits c x never (s.cast v i) = (never ≡ false) × ValFits c v × Same (t.int i) x × (is_integer_or_bool (type_of v) ≡ true)
  NodeFits c x never (s.both a b) = (never ≡ false) × ValFits c a × ValFits c b × Same t.bool x × Same t.bool (type_of a) × Same t.bool (type_of b)
  NodeFits c x never (s.either a b) = (never ≡ false) × ValFits c a × ValFits c b × Same t.bool x × Same t.bool (type_of a) × Same t.bool (type_of b)
  NodeFits c x never (s.call f args vs) = (never ≡ false) × CallFits c (sig_of c f) args vs x × ValuesFit c vs
  NodeFits c x never (s.assign p v) = (never ≡ false) × PlaceFits c p × ValFits c v × Same t.unit x × Found (place_type c p) (type_of v) × (is_exclusive c p ≡ true)
  NodeFits c x never (s.update y op p v) =
      (never ≡ false) × PlaceFits c p × ValFits c v × Same t.unit x × Found (place_type c p) y × Updates op y (type_of v)
      × (is_exclusive c p ≡ true)
  NodeFits c x never (s.inner b) = (never ≡ block_never b) × Same (block_type b) x × BlockFits c b
  NodeFits c x never (s.select k arms) =
      (never ≡ none_ends arms) × ScrutineeFits c k × ArmsFit c (is_behind k) (scrutinee_type k) x arms × (is_covered c.decls (scrutinee_type k) (patterns_of arms) ≡ true)
  NodeFits c x never (s.forever n w broken b) =
      (never ≡ not broken) × BlockFits (in_loop n x broken c) b × ((block_never b || same (block_type b) t.unit) ≡ true)
  NodeFits c x never (s.leave n s.no_maybevalue) = (never ≡ true) × BreakFits (loop_around n c.loops) t.unit
  NodeFits c x never (s.leave n (s.some_maybevalue v)) = (never ≡ true) × ValFits c v × BreakFits (loop_around n c.loops) (type_of v)
  NodeFits c x never (s.go_on n) = (never ≡ true) × (is_none (loop_around n c.loops) ≡ false)
  NodeFits c x never (s.give s.no_maybevalue) = (never ≡ true) × Same c.result t.unit
  NodeFits c x never (s.give (s.some_maybevalue v)) = (never ≡ true) × ValFits c v × Same c.result (type_of v)
  NodeFits c x never s.panic = never ≡ true

  pub PlaceFits : Frame → s.Place → Type 0
  PlaceFits c (s.variable k) = ⊤
  PlaceFits c (s.field p k) = PlaceFits c p
  PlaceFits c (s.unbox p) = PlaceFits c p
  PlaceFits c (s.through p) = PlaceFits c p
  PlaceFits c (s.through_value v) = ValFits c v

  pub ValuesFit : Frame → s.Values → Type 0
  ValuesFit c s.no_values = ⊤
  ValuesFit c (s.more_values v vs) = ValFits c v × ValuesFit c vs

  pub AllParts : Frame → s.Parts → Type 0
  AllParts c s.no_parts = ⊤
  AllParts c (s.more_parts k v rest) = ValFits c v × AllParts c rest

  pub ScrutineeFits : Frame → s.Scrutinee → Type 0
  ScrutineeFits c (s.stands x p place) = PlaceFits c place × Found (place_type c place) x
  ScrutineeFits c (s.held v) = ValFits c v

  -- arms of a match of type x on what has type y
  pub ArmsFit : Frame → Bool → t.Ty → t.Ty → s.Arms → Type 0
  ArmsFit c behind y x s.no_arms = ⊤
  ArmsFit c behind y x (s.more_arms p v rest) = PatFits c behind p (Some y) × ValFits c v × Goes v x × ArmsFit c behind y x rest

  pub StmtFits : Frame → s.Stmt → Type 0
  StmtFits c (s.run v) = ValFits c v
  StmtFits c (s.put p k v) = ValFits c v × Found (slice_get c.types k) (type_of v)
  StmtFits c (s.pass p v) = ValFits c v
  StmtFits c (s.open_up p k x) = ScrutineeFits c k × PatFits c (is_behind k) x (Some (scrutinee_type k)) × (is_covered c.decls (scrutinee_type k) (x ∷ []) ≡ true)
  StmtFits c (s.later p ks) = NamesFit c ks

  pub StmtsFit : Frame → s.Stmts → Type 0
  StmtsFit c s.no_stmts = ⊤
  StmtsFit c (s.more_stmts y rest) = StmtFits c y × StmtsFit c rest

  pub BlockFits : Frame → s.Block → Type 0
  BlockFits c (s.block x never p ss (s.some_maybevalue v)) = StmtsFit c ss × ValFits c v × Same (type_of v) x × (never ≡ never_ends v)
  BlockFits c (s.block x never p ss s.no_maybevalue) = StmtsFit c ss × ((never || same x t.unit) ≡ true) × (never ≡ stops ss)

-- ---- functions and programs

-- a function's parameters are its first variables
abbrev pub ParametersFit : List t.Ty → List t.Ty → Type 0
ParametersFit [] types = ⊤
ParametersFit (x ∷ xs) [] = ⊥
ParametersFit (x ∷ xs) (y ∷ ys) = Same x y × ParametersFit xs ys

abbrev pub are_regions : ℕ → List Position → Bool
are_regions n ps = list_all (λ (p : Position). nat_lt p.region.0 n) ps

-- a signature of types that may stand there, whose regions it counts
abbrev pub SigFits : List TypeDecl → Sig → Type 0
SigFits ds g =
    (list_all (is_sound (numbers ds) g.type_params false) (g.result ∷ g.params) ≡ true)
    × (are_regions g.regions (positions_in (g.result ∷ g.params)) ≡ true)

abbrev pub frame_of : List TypeDecl → List Sig → spelled.Function → Frame
frame_of ds gs f = record { decls = ds; sigs = gs; params = f.sig.type_params; types = f.types; result = f.sig.result; loops = [] }

-- a function whose signature, variables and body fit
abbrev pub FunctionFits : List TypeDecl → List Sig → spelled.Function → Type 0
FunctionFits ds gs f =
    SigFits ds f.sig × (length f.type_params ≡ f.sig.type_params) × (length f.variables ≡ length f.types)
    × ParametersFit f.sig.params f.types × All (Sound (frame_of ds gs f)) f.types
    × BlockFits (frame_of ds gs f) f.body × ((block_never f.body || same (block_type f.body) f.sig.result) ≡ true)

-- a declared type whose fields may stand there
abbrev pub is_sound_variant : List ℕ → ℕ → Variant → Bool
is_sound_variant ns n v = list_all (λ (f : List ℕ × t.Ty). is_sound ns n true f.1) v.fields

abbrev pub DeclFits : List TypeDecl → TypeDecl → Type 0
DeclFits ds d = list_all (is_sound_variant (numbers ds) (length d.params)) d.variants ≡ true

-- the signatures of functions
abbrev pub sigs_of : List spelled.Function → List Sig
sigs_of fs = map (λ (f : spelled.Function). f.sig) fs

-- a program all of whose parts fit
abbrev pub ProgramFits : Spelled → Type 0
ProgramFits prog = All (DeclFits prog.decls) prog.decls × All (FunctionFits prog.decls (sigs_of prog.functions)) prog.functions
