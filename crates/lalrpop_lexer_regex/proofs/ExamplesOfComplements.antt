-- Examples of complements, and near misses, to test the definitions.
use Rattle.std.proofs.Common.{◌≡◌, false, not, [], ◌∷◌, ◌++◌, Ok, refl, sym, ◌∙◌, arith, lit≤}
use Rattle.std.proofs.Common.{true≢false}
use Rattle.std.specs.Prelude.{codes}
use Rattle.std.specs.Fmt.{digits}
use Rattle.lalrpop_lexer_pattern.specs.Matches.{Pattern}
use Rattle.lalrpop_lexer_pattern.specs.Ranges.{InRanges}
use Rattle.lalrpop_lexer_pattern.specs.Sets.{in_range, in_ranges}
use Rattle.lalrpop_lexer_pattern.specs.declared.class.Range.{Range}
use Rattle.lalrpop_lexer_regex.specs.Complements.{IsReadAsTest, caret_text, property_text, is_plain_name, ArePrinted}
use Rattle.lalrpop_lexer_regex.proofs.ComplementLemmas.{caret_rest}

abbrev small_a : Range
small_a = record { start = 97; end = 97 }

caret : caret_text (small_a ∷ []) ≡ codes "[^" ++ (92 ∷ codes "x{61}-") ++ (92 ∷ codes "x{61}]")
unfolding digits
caret = refl

property : property_text 80 (codes "Greek") ≡ 92 ∷ codes "P{Greek}"
property = refl

-- a name with a key isn't plain
keyed : is_plain_name (codes "sc=Greek") ≡ false
keyed = refl

-- a range whose ends fall isn't printed
falls : ArePrinted (record { start = 98; end = 97 } ∷ []) → ⊥
falls h = omega (arith, h.2)

-- a complement isn't that over the code points: a surrogate is left out of it
no_surrogate : IsReadAsTest (caret_text (small_a ∷ [])) (λ c. not (in_ranges (small_a ∷ []) c)) → ⊥
unfolding in_ranges in_range
no_surrogate h =
    let rest = caret_rest small_a [] (refl, refl, lit≤ tt, tt) in
    let one : Ok (Pattern.class h.ranges) ≡ Ok (Pattern.class rest.ranges) = sym h.read ∙ rest.read in
    let same : h.ranges ≡ rest.ranges = cc in
    let inside : InRanges h.ranges 0xD800 = (h.members 0xD800).1 (lit≤ tt, refl) in
    let there : InRanges rest.ranges 0xD800 = rw same at inside in
    true≢false (sym ((rest.members 0xD800).0 there).0)
