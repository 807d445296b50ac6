-- Bare names that are added one after the other: for the functions that make `Rules`.
use Rattle.std.proofs.Common.{◌≡◌, ℕ, Bool, true, false, ◌||◌, ◌&&◌, cond, List, [], ◌∷◌, ◌++◌, Option, Some}
use Rattle.std.proofs.Common.{None, refl, ap, ap₂, sym, ◌∙◌, map}
use Rattle.std.proofs.lemmas.Bool.{eq-eqb, eqb-true}
use Rattle.std.specs.HashMap.{get_by}
use Rattle.std.specs.Map.{update}
use Rattle.std.specs.Prelude.{◌==◌, is_some}
use Rattle.std.specs.Str.{bytes_eq}
use Rattle.lalrpop_grammar_symbols.specs.Symbols.{Text}
use Rattle.lalrpop_grammar.specs.WrittenGrammar.{WrittenItem}
use Rattle.lalrpop_grammar.specs.Views.{item_view}
use Rattle.lalrpop_grammar.specs.declared.grammar.GrammarItem.{GrammarItem}
use Rattle.lalrpop_grammar_language.specs.Enabled.{bares_of, has_text}
use Rattle.lalrpop_grammar_rules.specs.RuleTable.{Names, bares_of_item, bares_of_items, knows}
use Rattle.lalrpop_grammar_symbols.proofs.BoolLemmas.{same_bool}

or_assoc : (a b c : Bool) → (a || (b || c)) ≡ ((a || b) || c)
or_assoc true b c = refl
or_assoc false b c = refl

lists-append : (n : Text) (xs ys : List Text) → has_text n (xs ++ ys) ≡ (has_text n xs || has_text n ys)
lists-append n [] ys = refl
lists-append n (x ∷ xs) ys =
    ap (λ b. bytes_eq n x || b) (lists-append n xs ys) ∙ or_assoc (bytes_eq n x) (has_text n xs) (has_text n ys)

-- the names at the front are known, those behind are to come
pub names_on : (n : Text) (whole before after : Bool) (xs ys zs : List Text) → zs ≡ xs ++ ys → whole ≡ (before || has_text n zs)
    → after ≡ (before || has_text n xs)
    → whole ≡ (after || has_text n ys)
names_on n whole before after xs ys zs split e is =
    e ∙ ap (λ l. before || has_text n l) split ∙ ap (λ b. before || b) (lists-append n xs ys)
    ∙ or_assoc before (has_text n xs) (has_text n ys)
    ∙ ap (λ b. b || has_text n ys) (sym is)

known-cond : (b : Bool) (x : Option (Unit {0})) → is_some (cond b (Some tt) x) ≡ (is_some x || b)
known-cond true None = refl
known-cond true (Some u) = refl
known-cond false None = refl
known-cond false (Some u) = refl

-- one name more
pub one_name_more : (before after : Names) (name : Text)
    → ((n : Text) → get_by (λ k. bytes_eq n k.now) after
    ≡ update bytes_eq (λ m. get_by (λ k. bytes_eq m k.now) before) name (Some tt) n)
    → (n : Text) → knows after n ≡ (knows before n || bytes_eq name n)
one_name_more before after name new n =
    ap is_some (new n) ∙ known-cond (bytes_eq name n) (get_by (λ k. bytes_eq n k.now) before)

eqb-sym : (x y : ℕ) → (x == y) ≡ (y == x)
eqb-sym x y = same_bool (x == y) (y == x) (λ e. eq-eqb y x (sym (eqb-true x y e))) (λ e. eq-eqb x y (sym (eqb-true y x e)))

-- the test of equality says the same of two texts in either order
pub same_text-sym : (xs ys : Text) → bytes_eq xs ys ≡ bytes_eq ys xs
same_text-sym [] [] = refl
same_text-sym [] (y ∷ ys) = refl
same_text-sym (x ∷ xs) [] = refl
same_text-sym (x ∷ xs) (y ∷ ys) = ap₂ ◌&&◌ (eqb-sym x y) (same_text-sym xs ys)

items_front : (i : WrittenItem) (is : List WrittenItem) → bares_of (i ∷ is) ≡ bares_of_item i ++ bares_of is
items_front (WrittenItem.match_token groups place) is = refl
items_front (WrittenItem.nonterminal r) is = refl
items_front (WrittenItem.extern_token block) is = refl
items_front (WrittenItem.intern_token entries) is = refl
items_front (WrittenItem.import text) is = refl

-- the bare names of a grammar's item stand before those of the items behind it
pub items_split : (x : GrammarItem) (xs : List GrammarItem)
    → bares_of_items (x ∷ xs) ≡ bares_of_item (item_view x) ++ bares_of_items xs
items_split x xs = items_front (item_view x) (map item_view xs)
