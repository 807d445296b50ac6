-- Names of nonterminals compared: the order calls two equal just where they are one.
use Rattle.std.proofs.Common.{◌≡◌, ◌∙◌, ap, sym}
use Rattle.std.specs.Bool.{Decides}
use Rattle.std.specs.Ordering.{is_eq}
use Rattle.std.proofs.lemmas.Map.Text.{is_eq-slice_cmp}
use Rattle.std.proofs.lemmas.Slice.Eq.{bytes_eq-Decides}
use Rattle.lalrpop_grammar_symbols.specs.contracts.names.NonterminalStringOrd.TheImpl as names
use Rattle.lalrpop_grammar_symbols.specs.declared.names.NonterminalString.{NonterminalString}

-- names that compare as equal are one
pub same_name : (a b : NonterminalString) → Decides (is_eq ((names.ghosts).cmp a b)) (a ≡ b)
same_name a b = (
  λ e. ap (λ t. record { 0 = t }) ((bytes_eq-Decides a.0 b.0).0 (sym (is_eq-slice_cmp a.0 b.0) ∙ e)),
  λ e. is_eq-slice_cmp a.0 b.0 ∙ (bytes_eq-Decides a.0 b.0).1 (ap (λ n. n.0) e),
)
