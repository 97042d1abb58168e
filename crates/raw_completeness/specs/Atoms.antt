-- Terms are read as they are spelled.
use Rattle.std.proofs.Common.{◌≡◌, refl, ap, sym, subst, ◌∙◌, ℕ, suc, Bool, true, false, List, [], ◌∷◌, ◌++◌, append_assoc, length, Option, Some, ◌⊎◌, inl, inr}
use Rattle.std.specs.Prelude.{codes, is_some}
use Rattle.std.specs.Fmt.{signed_decimal}
use Rattle.std.specs.Option.{option_map}
use Rattle.aen_base.specs.declared.span.Span.{Span}
use Rattle.aen_base.specs.declared.int_ty.IntTy.{IntTy}
use Rattle.aen_base.specs.Numbers.{Number}
use Rattle.pure_ast.specs.declared.ctor.CtorId.{CtorId}
use Rattle.pure_ast.specs.declared.def.Defs.{Defs}
use Rattle.pure_ast.specs.Terms as term
use Rattle.pure_ast.specs.Terms.{Term, Terms, var, literal, truth, tuple, built, no_terms, more_terms, terms_list}
use Rattle.text_meaning.specs.declared.mark.Mark.TheVariants as M
use Rattle.text_meaning.specs.Lookups.{parts_of}
use Rattle.text_meaning.specs.Ranges.{IsSmall, IsInRange}
use Rattle.text_meaning.specs.SpelledNames.{var_token, ctor_tokens}
use Rattle.text_meaning.specs.SpelledTerms.{term_tokens, terms_tokens, comma_tokens}
use Rattle.text_meaning.specs.Tokens.{Token, word, number, mark, var_text}
use Rattle.text_meaning.specs.Words.{int_word}
use Rattle.text_meaning.specs.WellFormedTerms.{IsTerm, AreTerms}
use Rattle.text_table.specs.declared.lexeme.Lexeme.{Lexeme}
use Rattle.text_table.specs.declared.part.Part.TheVariants as N
use Rattle.text_table.specs.declared.terminal.Terminal.TheVariants as T
use Rattle.text_syntax.specs.Classing.{class_of}
use Rattle.raw_ast.specs.declared.names.Constructor.{Constructor}
use Rattle.raw_ast.specs.declared.spelling.Spelling.{Spelling}
use Rattle.raw_ast.specs.Atoms as a
use Rattle.raw_ast.specs.Atoms.{RawAtom, rawatoms, rawatoms_list}
use Rattle.raw_values.specs.declared.rests.AfterConstructor.{AfterConstructor}
use Rattle.raw_values.specs.declared.rests.AfterConstructor.TheVariants as after
use Rattle.raw_ways.specs.Ways.{spelled as spelling_of, bracketed}
use Rattle.raw_ways.specs.Words.{is_true}
use Rattle.raw_meaning.specs.declared.outline.Outline.{Outline}
use Rattle.raw_meaning.specs.Faults.{atom_faults, atoms_faults}
use Rattle.raw_meaning.specs.Numbers.{numbered, number_of}
use Rattle.raw_meaning.specs.Rules as rule
use Rattle.raw_meaning.specs.Rules.{unless}
use Rattle.raw_meaning.specs.Trees.{atom_tree, atom_trees, constructor_id, variable_number, both}
use Rattle.raw_completeness.specs.Classes.{fitting, is_the_word}
use Rattle.raw_completeness.specs.Constructors.{IsConstructorOf, constructor_read}
use Rattle.raw_completeness.specs.Finding.{Finds}
use Rattle.raw_completeness.specs.Leaves.{Says, variables, numbers, IsInt, ints}
use Rattle.raw_completeness.specs.Numerals.{numbered_read, number_read}
use Rattle.raw_completeness.specs.Rows.{Reading, Taking, Row, done, fixed, leaf, node, last, produce}

-- ---- variables, truths and numbers

-- a variable as it is spelled has this number
abbrev pub IsVariableOf : ℕ → Spelling → Type 0
IsVariableOf v s = (variable_number s ≡ Some v) × (rule.variable s ≡ [])

pub variable_of : (v : ℕ) (s : Spelling) → IsSmall v → s.text ≡ var_text v → IsVariableOf v s
variable_of v s small e =
    let found : variable_number s ≡ Some v = ap (numbered (codes "v")) e ∙ numbered_read (codes "v") v small in
    (found, ap (λ (o : Option ℕ). unless (is_some o) s.span) found)

-- a lexeme is the word of a truth
abbrev pub IsTruth : Bool → Lexeme → Type 0
IsTruth b x = is_true x.class ≡ b

pub trues : Taking T.Truth (word (codes "true")) (IsTruth true)
trues = λ l s. (fitting T.Truth (word (codes "true")) l.kind refl s, ap (λ k. is_true (class_of k)) (is_the_word l.kind (codes "true") s))

pub falses : Taking T.Truth (word (codes "false")) (IsTruth false)
falses = λ l s. (fitting T.Truth (word (codes "false")) l.kind refl s, ap (λ k. is_true (class_of k)) (is_the_word l.kind (codes "false") s))

module _ (d : Defs) (h : Outline) where
  -- an atom as it is spelled stands for this term, and breaks no rule
  abbrev pub IsTermOf : Term → RawAtom → Type 0
  IsTermOf x v = (atom_tree h v ≡ Some x) × (atom_faults h v ≡ [])

  abbrev pub AreTermsOf : Terms → List RawAtom → Type 0
  AreTermsOf xs vs =
      (atom_trees h (rawatoms vs) ≡ Some xs) × ((atoms_faults h (rawatoms vs) ≡ []) × (length (rawatoms_list (rawatoms vs)) ≡ length (terms_list xs)))

  -- ---- trees of parts

  literal_of : (n : Number) (s : Spelling) (i : IntTy) → IsInRange n → s.text ≡ signed_decimal n.value → i ≡ n.ty → IsTermOf (literal n) (a.literal s i)
  literal_of n s i w e f =
      let found : number_of s.text i ≡ Some n = (λ j. number_of (e j) (f j)) ∙ number_read n w in
      (ap (option_map (λ (n : Number). term.literal n)) found, ap (λ (o : Option Number). unless (is_some o) s.span) found)

  more_of : (x : Term) (xs : Terms) (v : RawAtom) (vs : List RawAtom) → IsTermOf x v → AreTermsOf xs vs → AreTermsOf (more_terms x xs) (v ∷ vs)
  more_of x xs v vs p q =
      ((λ i. both (λ y ys. term.more_terms y ys) (p.0 i) (q.0 i)), ((λ i. p.1 i ++ q.1.0 i), ap (λ (n : ℕ). suc n) q.1.1))

  tuple_of : (xs : Terms) (vs : List RawAtom) → AreTermsOf xs vs → IsTermOf (tuple xs) (a.tuple (rawatoms vs))
  tuple_of xs vs q = (ap (option_map (λ (ts : Terms). term.tuple ts)) q.0, q.1.0)

  built_of : (c : CtorId) (xs : Terms) (k : Constructor) (vs : List RawAtom) → parts_of d c ≡ Some (length (terms_list xs)) → IsConstructorOf d h c k → AreTermsOf xs vs →
      IsTermOf (built c xs) (a.built k (rawatoms vs))
  built_of c xs k vs w p q =
      let n = length (terms_list xs) in
      let r = p n w in (
        (λ i. both (λ k ts. term.built k ts) (constructor_id h k (q.1.1 i)) (q.0 i)) ∙ ap (λ (o : Option CtorId). both (λ k ts. term.built k ts) o (Some xs)) r.0,
        (λ i. rule.constructor h k (q.1.1 i) ++ q.1.0 i) ∙ ap (λ (spans : List Span). spans ++ []) r.1,
      )

  -- a term is a constructor alone, or is read as another atom
  abbrev pub IsLone : CtorId → Term → Type 0
  IsLone c x = (k : Constructor) → IsConstructorOf d h c k → IsTermOf x (a.built k a.no_rawatoms)

  abbrev pub ReadTerm : Term → Type 0
  ReadTerm x = ((c : CtorId) × ((term_tokens d x ≡ ctor_tokens d c) × IsLone c x)) ⊎ Reading N.PlainAtom (term_tokens d x) (IsTermOf x)

  module _ (finds : Finds d h) where
    lone_read : (c : CtorId) (x : Term) → IsLone c x → Reading N.Atom (ctor_tokens d c) (IsTermOf x)
    lone_read c x f =
        produce N.Atom 1 (last N.Constructor (ctor_tokens d c) (IsConstructorOf d h c)) (IsTermOf x) refl (constructor_read d h finds c) (λ ls us vs r g. (vs, (r, f vs.0 g)))

    pub as_atom : (x : Term) → ReadTerm x → Reading N.Atom (term_tokens d x) (IsTermOf x)
    as_atom x (inl p) = subst (λ (ts : List Token). Reading N.Atom ts (IsTermOf x)) (sym p.1.0) (lone_read p.0 x p.1.1)
    as_atom x (inr p) = produce N.Atom 0 (last N.PlainAtom (term_tokens d x) (IsTermOf x)) (IsTermOf x) refl p (λ ls us vs r g. (vs, (r, g)))

    in_brackets : (x : Term) (ts : List Token) → Reading N.AtomInBrackets ts (IsTermOf x) → Reading N.PlainAtom (mark M.Open ∷ ts) (IsTermOf x)
    in_brackets x ts p =
        produce N.PlainAtom 4 (fixed T.OpenBracket (mark M.Open) (last N.AtomInBrackets ts (IsTermOf x))) (IsTermOf x) refl p (λ ls us vs r g. (vs, (r, g)))

    -- ---- terms by their forms

    abbrev arguments_tokens : Terms → List Token
    arguments_tokens xs = terms_tokens d xs ++ mark M.Close ∷ []

    abbrev parts_tokens : Terms → List Token
    parts_tokens xs = comma_tokens d xs ++ mark M.Close ∷ []

    abbrev IsAfter : (List RawAtom → AfterConstructor) → Terms → AfterConstructor → Type 0
    IsAfter f xs v = (vs : List RawAtom) × ((v ≡ f vs) × AreTermsOf xs vs)

    after_built : (c : CtorId) (xs : Terms) (k : Constructor) (v : AfterConstructor) → parts_of d c ≡ Some (length (terms_list xs)) → IsConstructorOf d h c k →
        IsAfter (λ vs. after.Arguments vs) xs v → IsTermOf (built c xs) (bracketed k v)
    after_built c xs k v w p q = subst (IsTermOf (built c xs)) (sym (ap (bracketed k) q.1.0)) (built_of c xs k q.0 w p q.1.1)

    built_read : (c : CtorId) (x : Term) (xs : Terms) → parts_of d c ≡ Some (length (terms_list (more_terms x xs))) → ReadTerm x →
        Reading N.Arguments (arguments_tokens xs) (AreTermsOf xs) → Reading N.AtomInBrackets (ctor_tokens d c ++ (term_tokens d x ++ arguments_tokens xs)) (IsTermOf (built c (more_terms x xs)))
    built_read c x xs w p q =
        let Rest : AfterConstructor → Type 0 = IsAfter (λ vs. after.Arguments vs) (more_terms x xs) in
        let rest = produce N.AfterConstructor 0 (node N.Atom (term_tokens d x) (IsTermOf x) (last N.Arguments (arguments_tokens xs) (AreTermsOf xs)))
        Rest refl (as_atom x p, q) (λ ls us vs r g. (vs, (r, (vs.0 ∷ vs.1.0, (refl, more_of x xs vs.0 vs.1.0 g.0 g.1))))) in
        produce N.AtomInBrackets 1 (node N.Constructor (ctor_tokens d c) (IsConstructorOf d h c) (last N.AfterConstructor (term_tokens d x ++ arguments_tokens xs) Rest))
        (IsTermOf (built c (more_terms x xs))) refl (constructor_read d h finds c, rest)
        (λ ls us vs r g. (vs, (r, after_built c (more_terms x xs) vs.0 vs.1.0 w g.0 g.1)))

    -- `,` and a term, before others
    part_tokens : (x : Term) (xs : Terms) → mark M.Comma ∷ (term_tokens d x ++ parts_tokens xs) ≡ parts_tokens (more_terms x xs)
    part_tokens x xs = ap (λ (ts : List Token). mark M.Comma ∷ ts) (sym (append_assoc (term_tokens d x) (comma_tokens d xs) (mark M.Close ∷ [])))

    abbrev part_row : Term → Terms → Row
    part_row x xs = fixed T.Comma (mark M.Comma) (node N.Atom (term_tokens d x) (IsTermOf x) (last N.TupleParts (parts_tokens xs) (AreTermsOf xs)))

    after_tuple : (x : Term) (xs : Terms) (k : Constructor) (v : AfterConstructor) → IsTermOf x (a.built k a.no_rawatoms) → IsAfter (λ vs. after.Parts vs) xs v →
        IsTermOf (tuple (more_terms x xs)) (bracketed k v)
    after_tuple x xs k v p q =
        subst (IsTermOf (tuple (more_terms x xs))) (sym (ap (bracketed k) q.1.0))
        (tuple_of (more_terms x xs) (a.built k a.no_rawatoms ∷ q.0) (more_of x xs (a.built k a.no_rawatoms) q.0 p q.1.1))

    tuple_read : (x y : Term) (more : Terms) → ReadTerm x → ReadTerm y → Reading N.TupleParts (parts_tokens more) (AreTermsOf more) →
        Reading N.AtomInBrackets (term_tokens d x ++ mark M.Comma ∷ (term_tokens d y ++ parts_tokens more)) (IsTermOf (tuple (more_terms x (more_terms y more))))
    tuple_read x y more (inr p) q m =
        produce N.AtomInBrackets 0 (node N.PlainAtom (term_tokens d x) (IsTermOf x) (part_row y more)) (IsTermOf (tuple (more_terms x (more_terms y more)))) refl (p, (as_atom y q, m))
        (λ ls us vs r g. (
          vs,
          (
            r,
            tuple_of (more_terms x (more_terms y more)) (vs.0 ∷ vs.1.1.0 ∷ vs.1.1.1.0)
                (more_of x (more_terms y more) vs.0 (vs.1.1.0 ∷ vs.1.1.1.0) g.0 (more_of y more vs.1.1.0 vs.1.1.1.0 g.1.0 g.1.1)),
          ),
        ))
    tuple_read x y more (inl p) q m =
        let Rest : AfterConstructor → Type 0 = IsAfter (λ vs. after.Parts vs) (more_terms y more) in
        let rest = produce N.AfterConstructor 1 (part_row y more) Rest refl (as_atom y q, m)
        (λ ls us vs r g. (vs, (r, (vs.1.0 ∷ vs.1.1.0, (refl, more_of y more vs.1.0 vs.1.1.0 g.0 g.1))))) in
        subst (λ (ts : List Token). Reading N.AtomInBrackets (ts ++ mark M.Comma ∷ (term_tokens d y ++ parts_tokens more)) (IsTermOf (tuple (more_terms x (more_terms y more))))) (sym p.1.0)
        (produce N.AtomInBrackets 1 (node N.Constructor (ctor_tokens d p.0) (IsConstructorOf d h p.0) (last N.AfterConstructor (mark M.Comma ∷ (term_tokens d y ++ parts_tokens more)) Rest))
        (IsTermOf (tuple (more_terms x (more_terms y more)))) refl (constructor_read d h finds p.0, rest)
        (λ ls us vs r g. (vs, (r, after_tuple x (more_terms y more) vs.0 vs.1.0 (p.1.1 vs.0 g.0) g.1))))

    mutual
      pub term_read : (x : Term) → IsTerm d x → ReadTerm x
      term_read (var v) w = inr (produce N.PlainAtom 0 (leaf T.Variable (var_token v) (Says (var_text v)) done) (IsTermOf (var v)) refl (variables v w, tt)
          (λ ls us vs r g. (vs, (r, (let p = variable_of v (spelling_of vs.0) w g.0 in (ap (option_map (λ (k : ℕ). term.var k)) p.0, p.1))))))
      term_read (literal n) w = inr (produce N.PlainAtom 1
          (leaf T.Number (number n.value) (Says (signed_decimal n.value)) (fixed T.Hash (mark M.Hash) (leaf T.Int (word (int_word n.ty)) (IsInt n.ty) done)))
          (IsTermOf (literal n)) refl (numbers n.value, (ints n.ty, tt)) (λ ls us vs r g. (vs, (r, literal_of n (spelling_of vs.0) _ w g.0 g.1.0))))
      term_read (truth true) w = inr (produce N.PlainAtom 2 (leaf T.Truth (word (codes "true")) (IsTruth true) done) (IsTermOf (truth true)) refl (trues, tt)
          (λ ls us vs r g. (vs, (r, (ap (λ (b : Bool). Some (term.truth b)) g.0, refl)))))
      term_read (truth false) w = inr (produce N.PlainAtom 2 (leaf T.Truth (word (codes "false")) (IsTruth false) done) (IsTermOf (truth false)) refl (falses, tt)
          (λ ls us vs r g. (vs, (r, (ap (λ (b : Bool). Some (term.truth b)) g.0, refl)))))
      term_read (tuple no_terms) w = inr (produce N.PlainAtom 3 (fixed T.UnitValue (mark M.Unit) done) (IsTermOf (tuple no_terms)) refl tt (λ ls us vs r g. (vs, (r, (refl, refl)))))
      term_read (tuple (more_terms x no_terms)) w = absurd (w.0 refl)
      term_read (tuple (more_terms x (more_terms y more))) w =
          inr (in_brackets (tuple (more_terms x (more_terms y more))) (term_tokens d x ++ parts_tokens (more_terms y more))
          (subst (λ (ts : List Token). Reading N.AtomInBrackets (term_tokens d x ++ ts) (IsTermOf (tuple (more_terms x (more_terms y more))))) (part_tokens y more)
          (tuple_read x y more (term_read x w.1.0) (term_read y w.1.1.0) (parts_read more w.1.1.1))))
      term_read (built c no_terms) w = inl (c, (refl, λ k p. built_of c no_terms k [] w.0 p (refl, (refl, refl))))
      term_read (built c (more_terms x xs)) w =
          inr (in_brackets (built c (more_terms x xs)) (ctor_tokens d c ++ (term_tokens d x ++ arguments_tokens xs))
          (built_read c x xs w.0 (term_read x w.1.0) (arguments_read xs w.1.1)))

      arguments_read : (xs : Terms) → AreTerms d xs → Reading N.Arguments (arguments_tokens xs) (AreTermsOf xs)
      arguments_read no_terms w = produce N.Arguments 0 (fixed T.CloseBracket (mark M.Close) done) (AreTermsOf no_terms) refl tt (λ ls us vs r g. (vs, (r, (refl, (refl, refl)))))
      arguments_read (more_terms x xs) w =
          subst (λ (ts : List Token). Reading N.Arguments ts (AreTermsOf (more_terms x xs))) (sym (append_assoc (term_tokens d x) (terms_tokens d xs) (mark M.Close ∷ [])))
          (produce N.Arguments 1 (node N.Atom (term_tokens d x) (IsTermOf x) (last N.Arguments (arguments_tokens xs) (AreTermsOf xs))) (AreTermsOf (more_terms x xs)) refl
          (as_atom x (term_read x w.0), arguments_read xs w.1) (λ ls us vs r g. (vs, (r, more_of x xs vs.0 vs.1.0 g.0 g.1))))

      parts_read : (xs : Terms) → AreTerms d xs → Reading N.TupleParts (parts_tokens xs) (AreTermsOf xs)
      parts_read no_terms w = produce N.TupleParts 0 (fixed T.CloseBracket (mark M.Close) done) (AreTermsOf no_terms) refl tt (λ ls us vs r g. (vs, (r, (refl, (refl, refl)))))
      parts_read (more_terms x xs) w =
          subst (λ (ts : List Token). Reading N.TupleParts ts (AreTermsOf (more_terms x xs))) (part_tokens x xs)
          (produce N.TupleParts 1 (part_row x xs) (AreTermsOf (more_terms x xs)) refl (as_atom x (term_read x w.0), parts_read xs w.1)
          (λ ls us vs r g. (vs, (r, more_of x xs vs.1.0 vs.1.1.0 g.0 g.1))))

    pub atom_read : (x : Term) → IsTerm d x → Reading N.Atom (term_tokens d x) (IsTermOf x)
    atom_read x w = as_atom x (term_read x w)

    pub atoms_read : (xs : Terms) → AreTerms d xs → Reading N.Atoms (terms_tokens d xs) (AreTermsOf xs)
    atoms_read no_terms w = produce N.Atoms 0 done (AreTermsOf no_terms) refl tt (λ ls us vs r g. (vs, (r, (refl, (refl, refl)))))
    atoms_read (more_terms x xs) w =
        produce N.Atoms 1 (node N.Atom (term_tokens d x) (IsTermOf x) (last N.Atoms (terms_tokens d xs) (AreTermsOf xs))) (AreTermsOf (more_terms x xs)) refl
        (atom_read x w.0, atoms_read xs w.1) (λ ls us vs r g. (vs, (r, more_of x xs vs.0 vs.1.0 g.0 g.1)))
