-- Texts compare as equal just where they are the same, for maps and sets by names and literals.
use Rattle.std.proofs.Common.{◌≡◌, sym, ◌∙◌}
use Rattle.std.specs.Bool.{Decides}
use Rattle.std.specs.Cmp.Lexicographic.{slice_cmp}
use Rattle.std.specs.Ordering.{is_eq, nat_cmp}
use Rattle.std.proofs.lemmas.Map.Text.{is_eq-slice_cmp}
use Rattle.std.proofs.lemmas.Slice.Eq.{bytes_eq-Decides}
use Rattle.lalrpop_grammar_symbols.specs.Symbols.{Text}

-- the comparison of two texts finds them equal exactly where they are
pub same_text : (s t : Text) → Decides (is_eq (slice_cmp nat_cmp s t)) (s ≡ t)
same_text s t = (λ e. (bytes_eq-Decides s t).0 (sym (is_eq-slice_cmp s t) ∙ e), λ e. is_eq-slice_cmp s t ∙ (bytes_eq-Decides s t).1 e)
