-- A search from the front of a list, and a list of literals without the listed ones, one element at a time.
use Rattle.std.proofs.Common.{◌≡◌, ◌∙◌, ap, sym, refl, Bool, true, false, cond, List, ◌∷◌, ◌++◌, append_assoc}
use Rattle.std.specs.Prelude.{Some, find, not}
use Rattle.lalrpop_grammar_symbols.specs.Symbols.{Terminal}
use Rattle.lalrpop_grammar.specs.WrittenGrammar.{WrittenEntry}
use Rattle.lalrpop_norm_token_check.specs.Blocks.{lists_literal}
use Rattle.lalrpop_norm_token_check.specs.Entries.{not_listed}
use Rattle.lalrpop_norm_token_check.specs.Noting.{list_unless}

-- the first element isn't the one
pub find_later : {A : Type 0} (p : A → Bool) (x : A) (xs : List A) (b : Bool) → b ≡ p x → b ≡ false
    → find p (x ∷ xs) ≡ find p xs
find_later p x xs b e h = ap (λ c. cond c (Some x) (find p xs)) (sym e ∙ h)

-- the first element is the one
pub find_here : {A : Type 0} (p : A → Bool) (x : A) (xs : List A) (b : Bool) → b ≡ p x → b ≡ true
    → find p (x ∷ xs) ≡ Some x
find_here p x xs b e h = ap (λ c. cond c (Some x) (find p xs)) (sym e ∙ h)

-- the first literal, unless an entry lists it, and then the others
pub not_listed_first : (es : List WrittenEntry) (t : Terminal) (ts : List Terminal) (b : Bool) → b ≡ lists_literal es t
    → not_listed es (t ∷ ts) ≡ list_unless b t ++ not_listed es ts
not_listed_first es t ts b e = ap (λ c. cond (not c) (t ∷ not_listed es ts) (not_listed es ts)) (sym e) ∙ split b
  where
    split : (c : Bool) → cond (not c) (t ∷ not_listed es ts) (not_listed es ts) ≡ list_unless c t ++ not_listed es ts
    split true = refl
    split false = refl

-- what is in front of the rest is put behind what is there
pub moved : {A : Type 0} (whole there left front rest after : List A) → there ++ left ≡ whole → left ≡ front ++ rest
    → after ≡ there ++ front → after ++ rest ≡ whole
moved whole there left front rest after is split new =
    ap (λ l. l ++ rest) new ∙ append_assoc there front rest ∙ ap (λ l. there ++ l) (sym split) ∙ is
