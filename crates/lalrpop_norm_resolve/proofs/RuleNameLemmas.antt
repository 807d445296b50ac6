-- The names of rules, of macros and of parameters, one by one; for the sets of names.
use Rattle.std.proofs.Common.{◌≡◌, ◌≢◌, ◌↔◌, ◌∙◌, ap, sym, refl, cond, List, [], ◌∷◌, ◌++◌, map}
use Rattle.std.proofs.Common.{Bool, true, false, ◌||◌, not}
use Rattle.std.specs.Prelude.{IsTrue, OnOk, Result, Ok, Err, filter}
use Rattle.std.specs.Str.{bytes_eq}
use Rattle.lalrpop_grammar_symbols.specs.Symbols.{Text}
use Rattle.lalrpop_grammar_symbols.specs.declared.names.NonterminalString.{NonterminalString}
use Rattle.lalrpop_grammar.specs.WrittenGrammar.{Rule}
use Rattle.lalrpop_grammar_language.specs.Enabled.{has_text}
use Rattle.lalrpop_norm_theory.specs.Resolving.{has_any_name, has_parameters}
use Rattle.lalrpop_norm_resolve.specs.Searches.{macro_names, plain_names}

-- a truth value is what it is where `false` comes behind it
pub nothing_more : (b : Bool) → (b || false) ≡ b
nothing_more true = refl
nothing_more false = refl

-- of three truth values joined by `||` either two may be joined first
pub three_ors : (a b c : Bool) → (a || (b || c)) ≡ ((a || b) || c)
three_ors true b c = refl
three_ors false b c = refl

-- the name at the front is known, those behind are to come
pub name_on : (n : Text) (whole before after : Bool) (name : Text) (ys zs : List Text) → zs ≡ name ∷ ys
    → whole ≡ (before || has_text n zs) → after ≡ (before || bytes_eq n name) → whole ≡ (after || has_text n ys)
name_on n whole before after name ys zs split e is =
    e ∙ ap (λ l. before || has_text n l) split ∙ three_ors before (bytes_eq n name) (has_text n ys)
    ∙ ap (λ b. b || has_text n ys) (sym is)

-- a rule with parameters is a macro
pub macro_test : (b : Bool) (args : List NonterminalString) → (IsTrue b ↔ (args ≢ [])) → b ≡ has_any_name (map (λ n. n.0) args)
macro_test true [] w = absurd (w.0 refl refl)
macro_test false [] w = refl
macro_test true (x ∷ xs) w = refl
macro_test false (x ∷ xs) w = let some : x ∷ xs ≡ [] → ⊥ = λ e. cc in w.1 some

plain_by : (b : Bool) (r : Rule) (rs : List Rule)
    → map (λ q. q.name) (cond (not b) (r ∷ rs) rs) ≡ map (λ q. q.name) (cond (not b) (r ∷ []) []) ++ map (λ q. q.name) rs
plain_by true r rs = refl
plain_by false r rs = refl

macro_by : (b : Bool) (r : Rule) (rs : List Rule)
    → map (λ q. q.name) (cond b (r ∷ rs) rs) ≡ map (λ q. q.name) (cond b (r ∷ []) []) ++ map (λ q. q.name) rs
macro_by true r rs = refl
macro_by false r rs = refl

-- the first rule's name stands in front
pub plain_front : (r : Rule) (rs : List Rule) → plain_names (r ∷ rs) ≡ plain_names (r ∷ []) ++ plain_names rs
plain_front r rs = plain_by (has_parameters r) r (filter (λ q. not (has_parameters q)) rs)

-- the name of the first rule, if it is a macro, stands in front of those of the other macros
pub macro_front : (r : Rule) (rs : List Rule) → macro_names (r ∷ rs) ≡ macro_names (r ∷ []) ++ macro_names rs
macro_front r rs = macro_by (has_parameters r) r (filter has_parameters rs)

module _ (r : Rule) (n : Text) (old new : Bool) where
  -- the sets with one rule's name more
  pub named_macro : has_parameters r ≡ true → new ≡ (old || bytes_eq n r.name)
      → new ≡ (old || has_text n (macro_names (r ∷ [])))
  named_macro is e =
      e ∙ ap (λ b. old || b) (sym (nothing_more (bytes_eq n r.name)))
      ∙ ap (λ (b : Bool). old || has_text n (map (λ q. q.name) (cond b (r ∷ []) []))) (sym is)

  pub no_macro : has_parameters r ≡ false → new ≡ old → new ≡ (old || has_text n (macro_names (r ∷ [])))
  no_macro is e =
      e ∙ sym (nothing_more old) ∙ ap (λ (b : Bool). old || has_text n (map (λ q. q.name) (cond b (r ∷ []) []))) (sym is)

  pub named_plain : has_parameters r ≡ false → new ≡ (old || bytes_eq n r.name)
      → new ≡ (old || has_text n (plain_names (r ∷ [])))
  named_plain is e =
      e ∙ ap (λ b. old || b) (sym (nothing_more (bytes_eq n r.name)))
      ∙ ap (λ (b : Bool). old || has_text n (map (λ q. q.name) (cond (not b) (r ∷ []) []))) (sym is)

  pub no_plain : has_parameters r ≡ true → new ≡ old → new ≡ (old || has_text n (plain_names (r ∷ [])))
  no_plain is e =
      e ∙ sym (nothing_more old) ∙ ap (λ (b : Bool). old || has_text n (map (λ q. q.name) (cond (not b) (r ∷ []) []))) (sym is)

-- what follows from what holds where nothing is refused holds there too
pub holds_where_ok : {T E : Type 0} (r : Result T E) (P Q : Type 0) → (P → Q) → OnOk r P → OnOk r Q
holds_where_ok (Ok x) P Q to h = to h
holds_where_ok (Err e) P Q to h = h
