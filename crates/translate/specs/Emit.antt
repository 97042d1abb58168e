-- The code of a function: what its parts add to it, from left to right (TEXT.md, "Code").
use Rattle.std.specs.Prelude.{ℕ, ◌+◌, List, [], ◌∷◌, ◌++◌, length, map, replicate, slice_get, Option, Some, None}
use Rattle.std.specs.List.{range_with_len}
use Rattle.aen_base.specs.declared.int_ty.IntTy.TheVariants.{U32}
use Rattle.aen_base.specs.declared.operators.BinOp.{BinOp}
use Rattle.pure_ast.specs.Terms as t
use Rattle.pure_ast.specs.Code as c
use Rattle.pure_ast.specs.declared.comp.Comp.{Comp}
use Rattle.pure_ast.specs.declared.comp.Comp.TheVariants as C
use Rattle.pure_ast.specs.declared.comp.Primitive.TheVariants as P
use Rattle.pure_ast.specs.declared.def.DefKind.TheVariants.{Forward}
use Rattle.pure_ast.specs.declared.def.Def.{Def}
use Rattle.pure_ast.specs.declared.def.Defs.{Defs}
use Rattle.sums_ast.specs.Tree.{Expr, number, variable, binary, call, Exprs, no_exprs, more_exprs, Stmt, bind, Stmts, no_stmts, more_stmts, Block, block, MaybeExpr, no_maybeexpr, some_maybeexpr}
use Rattle.sums_ast.specs.declared.function.Function.{Function}
use Rattle.sums_ast.specs.declared.function.Program.{Program}
use Rattle.translate.specs.declared.atom.Atom.{Atom}
use Rattle.translate.specs.declared.atom.Atom.TheVariants as A
use Rattle.translate.specs.Lists.{u32_type}

abbrev pub term_of : Atom → t.Term
term_of (A.Variable v) = t.var v
term_of (A.Number n) = t.literal n

-- the atom of a declared variable
abbrev pub known : Option Atom → Atom
known None = A.Variable 0
known (Some a) = a

-- what an expression adds: computations, each of which gives the next variable its value, and the
-- atom that is the expression's value
pub record Emitted : Type 0 where
  pub comps : List Comp
  pub atom : Atom

-- what arguments add, and the terms that are their values
pub record EmittedAll : Type 0 where
  pub comps : List Comp
  pub parts : List t.Term

-- one computation more, whose value is that of the whole; n is the next variable before all
abbrev pub computed : ℕ → List Comp → Comp → Emitted
computed n comps last = record { comps = comps ++ last ∷ []; atom = A.Variable (n + length comps) }

abbrev pub operation : BinOp → Atom → Atom → Comp
operation op a b = C.Prim (P.Arith U32 op) (term_of a ∷ term_of b ∷ [])

abbrev pub operated : ℕ → BinOp → Emitted → Emitted → Emitted
operated n op left right = computed n (left.comps ++ right.comps) (operation op left.atom right.atom)

-- a right side and then the operator, where n is the next variable after the left side
abbrev pub right_emitted : ℕ → Atom → BinOp → Emitted → Emitted
right_emitted n left op right = computed n right.comps (operation op left right.atom)

-- an operator after its left side
abbrev pub with_right : ℕ → BinOp → Emitted → (ℕ → Emitted) → Emitted
with_right n op left right = operated n op left (right (n + length left.comps))

abbrev pub called : ℕ → ℕ → EmittedAll → Emitted
called n f all = computed n all.comps (C.Call (record { 0 = f }) all.parts)

abbrev pub then_all : Emitted → EmittedAll → EmittedAll
then_all first rest = record { comps = first.comps ++ rest.comps; parts = term_of first.atom ∷ rest.parts }

abbrev pub with_rest : ℕ → Emitted → (ℕ → EmittedAll) → EmittedAll
with_rest n first rest = then_all first (rest (n + length first.comps))

-- an expression where n is the next variable and these are the atoms of the source variables
abbrev mutual
  pub emit : ℕ → List Atom → Expr → Emitted
  emit n atoms (number s k) = record { comps = []; atom = A.Number k }
  emit n atoms (variable s k) = record { comps = []; atom = known (slice_get atoms k) }
  emit n atoms (binary s op a b) = with_right n op (emit n atoms a) (λ m. emit m atoms b)
  emit n atoms (call s f args) = called n f (emit_all n atoms args)

  pub emit_all : ℕ → List Atom → Exprs → EmittedAll
  emit_all n atoms no_exprs = record { comps = []; parts = [] }
  emit_all n atoms (more_exprs e es) = with_rest n (emit n atoms e) (λ m. emit_all m atoms es)

-- the value that a `let` binds
abbrev pub bound : Stmt → Expr
bound (bind s k e) = e

-- a part, and what comes after it
abbrev pub followed : List Comp → Emitted → Emitted
followed comps after = record { comps = comps ++ after.comps; atom = after.atom }

abbrev pub with_after : ℕ → Emitted → (ℕ → Atom → Emitted) → Emitted
with_after n first after = followed first.comps (after (n + length first.comps) first.atom)

-- statements and the value after them; the variable of a `let` is the atom of its value
abbrev pub emit_body : ℕ → List Atom → Stmts → MaybeExpr → Emitted
emit_body n atoms no_stmts no_maybeexpr = record { comps = []; atom = A.Variable 0 }
emit_body n atoms no_stmts (some_maybeexpr e) = emit n atoms e
emit_body n atoms (more_stmts (bind s k e) rest) last =
    with_after n (emit n atoms e) (λ m atom. emit_body m (atoms ++ atom ∷ []) rest last)

abbrev pub emit_block : ℕ → List Atom → Block → Emitted
emit_block n atoms (block s stmts last) = emit_body n atoms stmts last

-- computations in order from variable n on, and then this code
abbrev pub chain : ℕ → List Comp → c.Code → c.Code
chain n [] rest = rest
chain n (comp ∷ comps) rest = c.bind n comp (chain (n + 1) comps rest)

-- computations, and then the atom as the answer
abbrev pub chained : ℕ → List Comp → Atom → c.Code
chained n comps a = chain n comps (c.last (C.Ok (term_of a)))

abbrev pub finished : ℕ → Emitted → c.Code
finished n e = chained n e.comps e.atom

-- the parameters are the first variables
abbrev pub parameter_atoms : ℕ → List Atom
parameter_atoms count = map A.Variable (range_with_len 0 count)

abbrev pub emitted : Function → Emitted
emitted f = emit_block f.parameters (parameter_atoms f.parameters) f.body

abbrev pub definition : ℕ → Function → Def
definition k f = record {
  kind = Forward (record { 0 = k });
  type_params = [];
  params = replicate f.parameters u32_type;
  result = u32_type;
  code = finished f.parameters (emitted f);
}

abbrev pub definitions : ℕ → List Function → List Def
definitions k [] = []
definitions k (f ∷ fs) = definition k f ∷ definitions (k + 1) fs

abbrev pub translation : Program → Defs
translation p = record {
  types = [];
  names = map (λ (f : Function). f.name) p.functions;
  defs = definitions 0 p.functions;
}
