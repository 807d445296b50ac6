-- What can be a start among written rules and among enabled ones. For the question whether a name can be a start.
use Rattle.std.proofs.Common.{◌≡◌, List, [], ◌∷◌, map, refl, ap, sym, ◌∙◌, Bool, true, false}
use Rattle.std.specs.List.{list_any}
use Rattle.std.specs.Prelude.{IsTrue, ◌↔◌, ◌&&◌, ◌||◌, filter, if◌then◌else◌}
use Rattle.lalrpop_grammar.specs.WrittenGrammar.{Rule}
use Rattle.lalrpop_grammar_language.specs.Enabled.{EnabledRule, enabled_rule, has_name, is_active}
use Rattle.lalrpop_grammar_rules.specs.StartViews.{active_start}
use Rattle.lalrpop_grammar_symbols.specs.Symbols.{Text}
use Rattle.lalrpop_grammar_language.specs.Starts.{can_start, has_none}

-- a list is empty exactly where its images are none: for the question whether a rule has parameters
pub none-by : {A : Type 0} (f : A → Text) (xs : List A) (none : Bool) → IsTrue none ↔ (xs ≡ []) → none ≡ has_none (map f xs)
none-by f [] true h = refl
none-by f [] false h = h.1 refl
none-by f (x ∷ xs) true h = let e : (x ∷ xs) ≡ [] = h.0 refl in cc
none-by f (x ∷ xs) false h = refl

step : {A B : Type 0} (f : A → B) (q : B → Bool) (x : A) (b : Bool) (ys : List A)
    → list_any q (map f (if b then x ∷ ys else ys)) ≡ ((b && q (f x)) || list_any q (map f ys))
step f q x true ys = refl
step f q x false ys = refl

-- what can be a start among the enabled rules is what is enabled and can be one among the written rules
pub starts_enabled : (f : List Text) (n : Text) (public : Bool) (rs : List Rule)
    → list_any (active_start f n public) rs
    ≡ list_any (can_start n public) (map (enabled_rule f) (filter (λ r. is_active f r.attributes) rs))
starts_enabled f n public [] = refl
starts_enabled f n public (r ∷ rs) =
    ap (λ t. active_start f n public r || t) (starts_enabled f n public rs)
    ∙ sym (step (enabled_rule f) (can_start n public) r (is_active f r.attributes) (filter (λ x. is_active f x.attributes) rs))

known_step : (a b c s t : Bool) → (s ≡ true → t ≡ true) → ((a && (b && c)) || s) ≡ true → ((a && (b && true)) || t) ≡ true
known_step true true c s t k h = refl
known_step true false c s t k h = k h
known_step false b c s t k h = k h

-- where a public rule can be a start, a rule can
pub known_where_public : (n : Text) (rs : List EnabledRule) → list_any (can_start n true) rs ≡ true
    → list_any (can_start n false) rs ≡ true
known_where_public n [] h = h
known_where_public n (r ∷ rs) h =
    known_step (has_name n r) (has_none r.parameters) r.public (list_any (can_start n true) rs) (list_any (can_start n false) rs)
    (known_where_public n rs) h
