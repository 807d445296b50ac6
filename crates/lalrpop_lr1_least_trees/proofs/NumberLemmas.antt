-- Names with their places, one more at a time: for the numbers of names.
use Rattle.std.proofs.Common.{◌≡◌, ◌∙◌, ℕ, zero, suc, ◌+◌, ◌<◌, ◌≤◌, List, [], ◌∷◌, ◌++◌}
use Rattle.std.proofs.Common.{length, drop, get_or}
use Rattle.std.proofs.Common.{refl, sym, ap, arith, append-nil}
use Rattle.std.specs.Borrow.{Bor}
use Rattle.lalrpop_grammar_symbols.specs.declared.names.NonterminalString.{NonterminalString}
use Rattle.lalrpop_lr1_first.specs.Listings.{lent}
use Rattle.lalrpop_lr1_first.specs.Tables.{pairs_from}

-- what is lent from a place on
lent_from : (names : List (Bor NonterminalString)) (i : ℕ) (n : Bor NonterminalString) → i < length names → n ≡ get_or names i n →
    drop i (lent names) ≡ n.now ∷ drop (suc i) (lent names)
lent_from [] i n h e = absurd (omega arith)
lent_from (x ∷ names) zero n h e = ap (λ (b : Bor NonterminalString). b.now ∷ lent names) (sym e)
lent_from (x ∷ names) (suc i) n h e = lent_from names i n (omega arith) e

lent_past : (names : List (Bor NonterminalString)) (i : ℕ) → length names ≤ i → drop i (lent names) ≡ []
lent_past [] zero h = refl
lent_past [] (suc i) h = refl
lent_past (x ∷ names) zero h = absurd (omega arith)
lent_past (x ∷ names) (suc i) h = lent_past names i (omega arith)

-- names with their places, from a place on, are the name there with its place, then those from the next place on
pub pairs_more : (names : List (Bor NonterminalString)) (i : ℕ) (n : Bor NonterminalString) → i < length names → n ≡ get_or names
    i n →
    pairs_from i (drop i (lent names)) ≡ (n.now, i) ∷ pairs_from (i + 1) (drop (i + 1) (lent names))
pairs_more names i n h e =
    let more : suc i ≡ i + 1 = omega arith in
    ap (pairs_from i) (lent_from names i n h e) ∙ ap (λ k. (n.now, i) ∷ pairs_from k (drop k (lent names))) more

-- where no names are left, the pairs so far are those of all names with their places
pub pairs_end : (names : List (Bor NonterminalString)) (i : ℕ) (numbers : List (NonterminalString × ℕ)) → length names ≤ i →
    numbers ++ pairs_from i (drop i (lent names)) ≡ pairs_from 0 (lent names) → numbers ≡ pairs_from 0 (lent names)
pairs_end names i numbers h e =
    sym (append-nil numbers) ∙ ap (λ l. numbers ++ pairs_from i l) (sym (lent_past names i h)) ∙ e
