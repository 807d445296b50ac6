-- A table that agrees has all grounded types, and what derivations put into it is grounded; for inferring types.
use Rattle.std.proofs.Common.{◌≡◌, ℕ, zero, suc, ◌+◌, List, [], ◌∷◌, subst, inl, inr, arith}
use Rattle.std.specs.Prelude.{Option, Some, None}
use Rattle.lalrpop_grammar_symbols.specs.Symbols.{Text, Terminal, Closed, Closeds, closed_list}
use Rattle.lalrpop_grammar.specs.WrittenGrammar.{Ty, Tys}
use Rattle.lalrpop_grammar_language.specs.Enabled.{EnabledGrammar}
use Rattle.lalrpop_grammar_language.specs.Closing.{Scope, parameter_value, close, sound_or_faulty, right_side}
use Rattle.lalrpop_grammar_language.specs.Admitting.{bind}
use Rattle.lalrpop_norm_theory.specs.Types.{GroundType, GroundTypes, chosen_or_all, HaveTypes, HaveTupleType}
use Rattle.lalrpop_norm_theory.specs.Types.{IsTypeOfName, IsTypeOf, AreTypesOf, type_scope}
use Rattle.lalrpop_norm_theory.specs.Types.{CallStep, TypeStep, IsGroundedIn, IsGrounded, IsTypedIn, IsTyped}
use Rattle.lalrpop_norm_theory.specs.Types.{IsAgreeing}

-- what has a type by the one relation has it by the other
abbrev pub IsWider : (Closed → GroundType → Type 0) → (Closed → GroundType → Type 0) → Type 0
IsWider P Q = (x : Closed) (t : GroundType) → P x t → Q x t

have_wider : (P Q : Closed → GroundType → Type 0) → IsWider P Q → (xs : List Closed) (ts : GroundTypes) → HaveTypes P xs ts →
    HaveTypes Q xs ts
have_wider P Q w [] GroundTypes.none h = tt
have_wider P Q w [] (GroundTypes.more t ts) h = absurd h
have_wider P Q w (x ∷ xs) GroundTypes.none h = absurd h
have_wider P Q w (x ∷ xs) (GroundTypes.more t ts) h = (w x t h.0, have_wider P Q w xs ts h.1)

tuple_wider : (P Q : Closed → GroundType → Type 0) → IsWider P Q → (xs : List Closed) (t : GroundType) → HaveTupleType P xs t →
    HaveTupleType Q xs t
tuple_wider P Q w [] t h = h
tuple_wider P Q w (x ∷ []) t h = w x t h
tuple_wider P Q w (x ∷ y ∷ xs) t h = (h.0, h.1, have_wider P Q w (x ∷ y ∷ xs) h.0 h.2)

name_wider : (P Q : Closed → GroundType → Type 0) → IsWider P Q → (n : Text) (o : Option Closed) (t : GroundType) →
    IsTypeOfName P n o t → IsTypeOfName Q n o t
name_wider P Q w n (Some x) t h = w x t h
name_wider P Q w n None t h = h

mutual
  written_wider : (P Q : Closed → GroundType → Type 0) → IsWider P Q → (s : Scope) (y : Ty) (t : GroundType) →
      IsTypeOf P s y t →
      IsTypeOf Q s y t
  written_wider P Q w s (Ty.tuple ts) t h = (h.0, h.1, all_written_wider P Q w s ts h.0 h.2)
  written_wider P Q w s (Ty.nominal path args) t h = (h.0, h.1, all_written_wider P Q w s args h.0 h.2)
  written_wider P Q w s (Ty.id n) t h = name_wider P Q w n (parameter_value s.binding n) t h
  written_wider P Q w s (Ty.of_symbol x) t h = w (sound_or_faulty (close s 0 x)) t h
  written_wider P Q w s (Ty.ref l m u) t h = (h.0, h.1, written_wider P Q w s u h.0 h.2)
  written_wider P Q w s (Ty.opaque text) t h = h

  all_written_wider : (P Q : Closed → GroundType → Type 0) → IsWider P Q → (s : Scope) (ys : Tys) (ts : GroundTypes) →
      AreTypesOf P s ys ts → AreTypesOf Q s ys ts
  all_written_wider P Q w s Tys.none GroundTypes.none h = tt
  all_written_wider P Q w s Tys.none (GroundTypes.more t ts) h = absurd h
  all_written_wider P Q w s (Tys.more y ys) GroundTypes.none h = absurd h
  all_written_wider P Q w s (Tys.more y ys) (GroundTypes.more t ts) h = (written_wider P Q w s y t h.0, all_written_wider P Q w s ys ts h.1)

call_wider : (g : EnabledGrammar) (P Q : Closed → GroundType → Type 0) → IsWider P Q →
    (n : Text) (args : Closeds) (level : Option ℕ)
    (t : GroundType) → CallStep g P n args level t → CallStep g Q n args level t
call_wider g P Q w n args level t (inl h) = inl (record {
  rule = h.rule;
  is_rule = h.is_rule;
  written = h.written;
  declared = h.declared;
  type_is = written_wider P Q w (type_scope g h.rule args) h.written t h.type_is;
})
call_wider g P Q w n args level t (inr (inl h)) = inr (inl (record {
  rule = h.rule;
  choice = h.choice;
  fits = h.fits;
  undeclared = h.undeclared;
  level_is = h.level_is;
  no_code = h.no_code;
  type_is = tuple_wider P Q w (chosen_or_all (right_side g h.rule (bind h.rule args) h.choice)) t h.type_is;
}))
call_wider g P Q w n args level t (inr (inr h)) = inr (inr (record {
  rule = h.rule;
  is_rule = h.is_rule;
  undeclared = h.undeclared;
  from = h.from;
  to = h.to;
  from_is = h.from_is;
  to_is = h.to_is;
  type_is = w (Closed.call n args (Some h.to)) t h.type_is;
}))

-- a step is a step over a wider relation
pub step_wider : (g : EnabledGrammar) (P Q : Closed → GroundType → Type 0) → IsWider P Q → (x : Closed) (t : GroundType) →
    TypeStep g P x t → TypeStep g Q x t
step_wider g P Q w (Closed.terminal (Terminal.quoted u)) t h = h
step_wider g P Q w (Closed.terminal (Terminal.regex u)) t h = h
step_wider g P Q w (Closed.terminal (Terminal.bare u)) t h = h
step_wider g P Q w (Closed.terminal Terminal.error) t h = h
step_wider g P Q w (Closed.call n args level) t h = (h.0, call_wider g P Q w n args level t h.1)
step_wider g P Q w (Closed.repeat op x) t h = (h.0, h.1, h.2, w x h.1 h.3)
step_wider g P Q w (Closed.group xs) t h = (h.0, tuple_wider P Q w (chosen_or_all (closed_list xs)) t h.1)
step_wider g P Q w (Closed.choose x) t h = w x t h
step_wider g P Q w (Closed.name m n x) t h = w x t h
step_wider g P Q w Closed.lookahead t h = h
step_wider g P Q w Closed.lookbehind t h = h
step_wider g P Q w Closed.faulty t h = h

typed_literal : (g : EnabledGrammar) (P Q : Closed → GroundType → Type 0) (u : Terminal) (t : GroundType) →
    TypeStep g P (Closed.terminal u) t → TypeStep g Q (Closed.terminal u) t
typed_literal g P Q (Terminal.quoted u) t h = h
typed_literal g P Q (Terminal.regex u) t h = h
typed_literal g P Q (Terminal.bare u) t h = h
typed_literal g P Q Terminal.error t h = h

-- each grounded type is the table's
pub grounded_in_table : (g : EnabledGrammar) (table : Closed → Option GroundType) → IsAgreeing g table → (k : ℕ) (x : Closed)
    (t : GroundType) → IsGroundedIn g k x t → IsTypedIn g table k x t
grounded_in_table g table a zero x t h = absurd h
grounded_in_table g table a (suc k) (Closed.call n args level) t h =
    a n args level t (step_wider g (IsGroundedIn g k) (IsTyped g table) (λ x t h. (k, grounded_in_table g table a k x t h))
    (Closed.call n args level) t h)
grounded_in_table g table a (suc k) (Closed.terminal u) t h = typed_literal g (IsGroundedIn g k) (IsTypedIn g table k) u t h
grounded_in_table g table a (suc k) (Closed.repeat op x) t h = (h.0, h.1, h.2, grounded_in_table g table a k x h.1 h.3)
grounded_in_table g table a (suc k) (Closed.group xs) t h = (
  h.0,
  tuple_wider (IsGroundedIn g k) (IsTypedIn g table k) (λ x t h. grounded_in_table g table a k x t h)
      (chosen_or_all (closed_list xs)) t h.1,
)
grounded_in_table g table a (suc k) (Closed.choose x) t h = grounded_in_table g table a k x t h
grounded_in_table g table a (suc k) (Closed.name m n x) t h = grounded_in_table g table a k x t h
grounded_in_table g table a (suc k) Closed.lookahead t h = h
grounded_in_table g table a (suc k) Closed.lookbehind t h = h
grounded_in_table g table a (suc k) Closed.faulty t h = h

-- a call without a type in the table has no grounded type
pub no_type_in_table : (g : EnabledGrammar) (table : Closed → Option GroundType) → IsAgreeing g table → (n : Text) (args : Closeds)
    (level : Option ℕ) → table (Closed.call n args level) ≡ None → (t : GroundType) →
    IsGrounded g (Closed.call n args level) t → ⊥
no_type_in_table g table a n args level e t (zero, h) = absurd h
no_type_in_table g table a n args level e t (suc k, h) =
    let f : table (Closed.call n args level) ≡ Some t = grounded_in_table g table a (suc k) (Closed.call n args level) t h in cc

-- a call has one grounded type at most
pub one_type : (g : EnabledGrammar) (table : Closed → Option GroundType) → IsAgreeing g table → (n : Text) (args : Closeds)
    (level : Option ℕ) (t u : GroundType) → IsGrounded g (Closed.call n args level) t → IsGrounded g (Closed.call n args level) u →
    t ≡ u
one_type g table a n args level t u (zero, h) (j, k) = absurd h
one_type g table a n args level t u (suc i, h) (zero, k) = absurd k
one_type g table a n args level t u (suc i, h) (suc j, k) =
    let e : table (Closed.call n args level) ≡ Some t = grounded_in_table g table a (suc i) (Closed.call n args level) t h in
    let f : table (Closed.call n args level) ≡ Some u = grounded_in_table g table a (suc j) (Closed.call n args level) u k in cc

-- what has a type in some steps has it in more

one_step_more : (g : EnabledGrammar) (k : ℕ) (x : Closed) (t : GroundType) → IsGroundedIn g k x t → IsGroundedIn g (suc k) x t
one_step_more g zero x t h = absurd h
one_step_more g (suc k) x t h = step_wider g (IsGroundedIn g k) (IsGroundedIn g (suc k)) (λ x t h. one_step_more g k x t h) x t h

-- so many steps more
pub steps_more : (g : EnabledGrammar) (d k : ℕ) (x : Closed) (t : GroundType) → IsGroundedIn g k x t → IsGroundedIn g (d + k) x t
steps_more g zero k x t h = subst (λ n. IsGroundedIn g n x t) (let e : k ≡ 0 + k = omega arith in e) h
steps_more g (suc d) k x t h =
    subst (λ n. IsGroundedIn g n x t) (let e : suc (d + k) ≡ suc d + k = omega arith in e)
    (one_step_more g (d + k) x t (steps_more g d k x t h))

-- the same, counted the other way
pub more_steps : (g : EnabledGrammar) (k d : ℕ) (x : Closed) (t : GroundType) → IsGroundedIn g k x t → IsGroundedIn g (k + d) x t
more_steps g k d x t h = subst (λ n. IsGroundedIn g n x t) (let e : d + k ≡ k + d = omega arith in e) (steps_more g d k x t h)

-- finitely many derivations have one number of steps

types_in : (g : EnabledGrammar) (xs : List Closed) (ts : GroundTypes) → HaveTypes (IsGrounded g) xs ts →
    (k : ℕ) × HaveTypes (IsGroundedIn g k) xs ts
types_in g [] GroundTypes.none h = (0, tt)
types_in g [] (GroundTypes.more t ts) h = absurd h
types_in g (x ∷ xs) GroundTypes.none h = absurd h
types_in g (x ∷ xs) (GroundTypes.more t ts) h =
    let r = types_in g xs ts h.1 in (
      h.0.0 + r.0,
      (
        more_steps g h.0.0 r.0 x t h.0.1,
        have_wider (IsGroundedIn g r.0) (IsGroundedIn g (h.0.0 + r.0)) (λ y u k. steps_more g h.0.0 r.0 y u k) xs ts r.1,
      ),
    )

tuple_in : (g : EnabledGrammar) (xs : List Closed) (t : GroundType) → HaveTupleType (IsGrounded g) xs t →
    (k : ℕ) × HaveTupleType (IsGroundedIn g k) xs t
tuple_in g [] t h = (0, h)
tuple_in g (x ∷ []) t h = h
tuple_in g (x ∷ y ∷ xs) t h = let r = types_in g (x ∷ y ∷ xs) h.0 h.2 in (r.0, (h.0, h.1, r.1))

name_in : (g : EnabledGrammar) (n : Text) (o : Option Closed) (t : GroundType) → IsTypeOfName (IsGrounded g) n o t →
    (k : ℕ) × IsTypeOfName (IsGroundedIn g k) n o t
name_in g n (Some x) t h = h
name_in g n None t h = (0, h)

mutual
  written_in : (g : EnabledGrammar) (s : Scope) (y : Ty) (t : GroundType) → IsTypeOf (IsGrounded g) s y t →
      (k : ℕ) × IsTypeOf (IsGroundedIn g k) s y t
  written_in g s (Ty.tuple ts) t h = let r = all_written_in g s ts h.0 h.2 in (r.0, (h.0, h.1, r.1))
  written_in g s (Ty.nominal path args) t h = let r = all_written_in g s args h.0 h.2 in (r.0, (h.0, h.1, r.1))
  written_in g s (Ty.id n) t h = name_in g n (parameter_value s.binding n) t h
  written_in g s (Ty.of_symbol x) t h = h
  written_in g s (Ty.ref l m u) t h = let r = written_in g s u h.0 h.2 in (r.0, (h.0, h.1, r.1))
  written_in g s (Ty.opaque text) t h = (0, h)

  all_written_in : (g : EnabledGrammar) (s : Scope) (ys : Tys) (ts : GroundTypes) → AreTypesOf (IsGrounded g) s ys ts →
      (k : ℕ) × AreTypesOf (IsGroundedIn g k) s ys ts
  all_written_in g s Tys.none GroundTypes.none h = (0, tt)
  all_written_in g s Tys.none (GroundTypes.more t ts) h = absurd h
  all_written_in g s (Tys.more y ys) GroundTypes.none h = absurd h
  all_written_in g s (Tys.more y ys) (GroundTypes.more t ts) h =
      let a = written_in g s y t h.0 in
      let b = all_written_in g s ys ts h.1 in (
        a.0 + b.0,
        (
          written_wider (IsGroundedIn g a.0) (IsGroundedIn g (a.0 + b.0)) (λ x u k. more_steps g a.0 b.0 x u k) s y t a.1,
          all_written_wider (IsGroundedIn g b.0) (IsGroundedIn g (a.0 + b.0)) (λ x u k. steps_more g a.0 b.0 x u k) s ys ts b.1,
        ),
      )

call_in : (g : EnabledGrammar) (n : Text) (args : Closeds) (level : Option ℕ) (t : GroundType) →
    CallStep g (IsGrounded g) n args level t → (k : ℕ) × CallStep g (IsGroundedIn g k) n args level t
call_in g n args level t (inl h) =
    let r = written_in g (type_scope g h.rule args) h.written t h.type_is in
    (r.0, inl (record { rule = h.rule; is_rule = h.is_rule; written = h.written; declared = h.declared; type_is = r.1 }))
call_in g n args level t (inr (inl h)) =
    let r = tuple_in g (chosen_or_all (right_side g h.rule (bind h.rule args) h.choice)) t h.type_is in (
      r.0,
      inr (inl (record {
        rule = h.rule;
        choice = h.choice;
        fits = h.fits;
        undeclared = h.undeclared;
        level_is = h.level_is;
        no_code = h.no_code;
        type_is = r.1;
      })),
    )
call_in g n args level t (inr (inr h)) = (
  h.type_is.0,
  inr (inr (record {
    rule = h.rule;
    is_rule = h.is_rule;
    undeclared = h.undeclared;
    from = h.from;
    to = h.to;
    from_is = h.from_is;
    to_is = h.to_is;
    type_is = h.type_is.1;
  })),
)

-- a step over grounded types gives a grounded type
pub step_grounded : (g : EnabledGrammar) (x : Closed) (t : GroundType) → TypeStep g (IsGrounded g) x t → IsGrounded g x t
step_grounded g (Closed.terminal u) t h = (1, typed_literal g (IsGrounded g) (IsGroundedIn g 0) u t h)
step_grounded g (Closed.call n args level) t h = let r = call_in g n args level t h.1 in (suc r.0, (h.0, r.1))
step_grounded g (Closed.repeat op x) t h = (suc h.3.0, (h.0, h.1, h.2, h.3.1))
step_grounded g (Closed.group xs) t h = let r = tuple_in g (chosen_or_all (closed_list xs)) t h.1 in (suc r.0, (h.0, r.1))
step_grounded g (Closed.choose x) t h = (suc h.0, h.1)
step_grounded g (Closed.name m n x) t h = (suc h.0, h.1)
step_grounded g Closed.lookahead t h = (1, h)
step_grounded g Closed.lookbehind t h = (1, h)
step_grounded g Closed.faulty t h = absurd h

-- so what a table of grounded types gives is grounded
pub typed_grounded : (g : EnabledGrammar) (table : Closed → Option GroundType) →
    ((n : Text) (args : Closeds) (level : Option ℕ) (t : GroundType) → table (Closed.call n args level) ≡ Some t →
    IsGrounded g (Closed.call n args level) t) → (k : ℕ) (x : Closed) (t : GroundType) → IsTypedIn g table k x t → IsGrounded g x t
typed_grounded g table w zero x t h = absurd h
typed_grounded g table w (suc k) (Closed.call n args level) t h = w n args level t h
typed_grounded g table w (suc k) (Closed.terminal u) t h = (1, typed_literal g (IsTypedIn g table k) (IsGroundedIn g 0) u t h)
typed_grounded g table w (suc k) (Closed.repeat op x) t h =
    step_grounded g (Closed.repeat op x) t (h.0, h.1, h.2, typed_grounded g table w k x h.1 h.3)
typed_grounded g table w (suc k) (Closed.group xs) t h =
    step_grounded g (Closed.group xs) t (
      h.0,
      tuple_wider (IsTypedIn g table k) (IsGrounded g)
          (λ x t h. typed_grounded g table w k x t h) (chosen_or_all (closed_list xs)) t h.1,
    )
typed_grounded g table w (suc k) (Closed.choose x) t h = step_grounded g (Closed.choose x) t (typed_grounded g table w k x t h)
typed_grounded g table w (suc k) (Closed.name m n x) t h = step_grounded g (Closed.name m n x) t (typed_grounded g table w k x t h)
typed_grounded g table w (suc k) Closed.lookahead t h = (1, h)
typed_grounded g table w (suc k) Closed.lookbehind t h = (1, h)
typed_grounded g table w (suc k) Closed.faulty t h = absurd h
