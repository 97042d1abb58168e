-- Atoms as they are spelled are spelled as the terms that they stand for.
use Rattle.std.specs.Prelude.{◌≡◌, refl, Bool, true, false, length, Some}
use Rattle.std.proofs.Common.{ap, ◌∙◌, subst}
use Rattle.aen_base.specs.Numbers.{Number}
use Rattle.aen_base.specs.declared.int_ty.IntTy.{IntTy}
use Rattle.pure_ast.specs.declared.def.Defs.{Defs}
use Rattle.pure_ast.specs.Terms as term
use Rattle.pure_ast.specs.Terms.{Term, Terms}
use Rattle.text_meaning.specs.declared.mark.Mark.TheVariants.{Close}
use Rattle.text_meaning.specs.SpelledTerms.{truth_tokens, number_tokens, term_tokens, terms_tokens, comma_tokens}
use Rattle.text_meaning.specs.Tokens.{word}
use Rattle.text_meaning.specs.Words.{int_word}
use Rattle.raw_ast.specs.declared.spelling.Spelling.{Spelling}
use Rattle.raw_ast.specs.Atoms as a
use Rattle.raw_ast.specs.Atoms.{RawAtom, RawAtoms, rawatoms_list}
use Rattle.raw_meaning.specs.declared.outline.Outline.{Outline}
use Rattle.raw_meaning.specs.Heads.{declared_by}
use Rattle.raw_meaning.specs.Numbers.{number_of}
use Rattle.raw_meaning.specs.OptionLemmas.{some_so, mapped_made, both_made}
use Rattle.raw_meaning.specs.Trees.{variable_number, constructor_id, atom_tree, atom_trees}
use Rattle.raw_meaning.specs.Wants.{Wants, marks, truth_wants, atom_wants, atoms_wants, comma_wants}
use Rattle.raw_soundness.specs.NamesSpelled.{constructor_spelled}
use Rattle.raw_soundness.specs.NumbersSpelled.{variable_spelled, number_spelled}
use Rattle.raw_soundness.specs.Spells.{Spells, over, next, seq}

pub truth_spelled : (b : Bool) (rest : Wants) → Spells (truth_wants b rest) rest (truth_tokens b)
truth_spelled true rest = next refl over
truth_spelled false rest = next refl over

literal_spelled : (s : Spelling) (i : IntTy) (n : Number) (rest : Wants) → number_of s.text i ≡ Some n → Spells (atom_wants (a.literal s i) rest) rest (number_tokens n)
literal_spelled s i n rest e =
    let r = number_spelled s.text i n e in next r.0 (next refl (next (ap (λ t. word (int_word t)) r.1) over))

module _ (h : Outline) (d : Defs) (same : declared_by d ≡ h) where
  mutual
    pub atom_spelled : (x : RawAtom) (t : Term) (rest : Wants) → atom_tree h x ≡ Some t → Spells (atom_wants x rest) rest (term_tokens d t)
    atom_spelled (a.var s) t rest e =
        let m = mapped_made (λ k. term.var k) (variable_number s) t e in
        subst (λ t. Spells (atom_wants (a.var s) rest) rest (term_tokens d t)) m.2 (next (variable_spelled s m.0 m.1) over)
    atom_spelled (a.literal s i) t rest e =
        let m = mapped_made (λ n. term.literal n) (number_of s.text i) t e in
        subst (λ t. Spells (atom_wants (a.literal s i) rest) rest (term_tokens d t)) m.2 (literal_spelled s i m.0 rest m.1)
    atom_spelled (a.truth b) t rest e = some_so (λ t. Spells (atom_wants (a.truth b) rest) rest (term_tokens d t)) (term.truth b) t e (truth_spelled b rest)
    atom_spelled (a.tuple a.no_rawatoms) t rest e =
        some_so (λ t. Spells (atom_wants (a.tuple a.no_rawatoms) rest) rest (term_tokens d t)) (term.tuple term.no_terms) t e (next refl over)
    atom_spelled (a.tuple (a.more_rawatoms x xs)) t rest e =
        let m = mapped_made (λ ts. term.tuple ts) (atom_trees h (a.more_rawatoms x xs)) t e in
        let q = both_made (λ y ys. term.more_terms y ys) (atom_tree h x) (atom_trees h xs) m.0 m.1 in
        let last = marks Close rest in
        subst (λ t. Spells (atom_wants (a.tuple (a.more_rawatoms x xs)) rest) rest (term_tokens d t)) (ap (λ ts. term.tuple ts) q.is ∙ m.2)
        (next refl (seq (atom_spelled x q.first (comma_wants xs last) q.is_first) (seq (comma_spelled xs q.second last q.is_second) (next refl over))))
    atom_spelled (a.built k a.no_rawatoms) t rest e =
        let m = both_made (λ k ts. term.built k ts) (constructor_id h k 0) (Some term.no_terms) t e in
        subst (λ t. Spells (atom_wants (a.built k a.no_rawatoms) rest) rest (term_tokens d t)) m.is
        (some_so (λ ts. Spells (atom_wants (a.built k a.no_rawatoms) rest) rest (term_tokens d (term.built m.first ts))) term.no_terms m.second m.is_second
        (constructor_spelled h d k 0 m.first rest same m.is_first))
    atom_spelled (a.built k (a.more_rawatoms x xs)) t rest e =
        let n = length (rawatoms_list (a.more_rawatoms x xs)) in
        let m = both_made (λ k ts. term.built k ts) (constructor_id h k n) (atom_trees h (a.more_rawatoms x xs)) t e in
        let q = both_made (λ y ys. term.more_terms y ys) (atom_tree h x) (atom_trees h xs) m.second m.is_second in
        let last = marks Close rest in
        let parts = atom_wants x (atoms_wants xs last) in
        subst (λ t. Spells (atom_wants (a.built k (a.more_rawatoms x xs)) rest) rest (term_tokens d t)) (ap (λ ts. term.built m.first ts) q.is ∙ m.is)
        (next refl (seq (constructor_spelled h d k n m.first parts same m.is_first)
        (seq (atom_spelled x q.first (atoms_wants xs last) q.is_first) (seq (atoms_spelled xs q.second last q.is_second) (next refl over)))))

    pub atoms_spelled : (xs : RawAtoms) (ts : Terms) (rest : Wants) → atom_trees h xs ≡ Some ts → Spells (atoms_wants xs rest) rest (terms_tokens d ts)
    atoms_spelled a.no_rawatoms ts rest e = some_so (λ ts. Spells rest rest (terms_tokens d ts)) term.no_terms ts e over
    atoms_spelled (a.more_rawatoms x xs) ts rest e =
        let m = both_made (λ y ys. term.more_terms y ys) (atom_tree h x) (atom_trees h xs) ts e in
        subst (λ ts. Spells (atoms_wants (a.more_rawatoms x xs) rest) rest (terms_tokens d ts)) m.is
        (seq (atom_spelled x m.first (atoms_wants xs rest) m.is_first) (atoms_spelled xs m.second rest m.is_second))

    pub comma_spelled : (xs : RawAtoms) (ts : Terms) (rest : Wants) → atom_trees h xs ≡ Some ts → Spells (comma_wants xs rest) rest (comma_tokens d ts)
    comma_spelled a.no_rawatoms ts rest e = some_so (λ ts. Spells rest rest (comma_tokens d ts)) term.no_terms ts e over
    comma_spelled (a.more_rawatoms x xs) ts rest e =
        let m = both_made (λ y ys. term.more_terms y ys) (atom_tree h x) (atom_trees h xs) ts e in
        subst (λ ts. Spells (comma_wants (a.more_rawatoms x xs) rest) rest (comma_tokens d ts)) m.is
        (next refl (seq (atom_spelled x m.first (comma_wants xs rest) m.is_first) (comma_spelled xs m.second rest m.is_second)))
