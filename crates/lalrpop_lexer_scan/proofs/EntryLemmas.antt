-- Tokens with the numbers of their entries, one more of them; for the scan.
use Rattle.std.proofs.Common.{◌≡◌, ℕ, List, [], ◌∷◌, ◌++◌, subst, sym}
use Rattle.lalrpop_grammar_symbols.specs.declared.terminal.TerminalString.{TerminalString}
use Rattle.lalrpop_grammar.specs.declared.token.ScanToken.{ScanToken}
use Rattle.lalrpop_lexer_scan.specs.declared.scanner.Scanner.{Scanner}
use Rattle.lalrpop_lexer_scan.specs.Scanning.{AreEntriesOf, IsTerminalAt}

entries_more : (s : Scanner) (ks : List ScanToken) (ns : List ℕ) (k : ScanToken) (n : ℕ) → AreEntriesOf s ks ns
    → IsTerminalAt s n k.terminal → AreEntriesOf s (ks ++ k ∷ []) (ns ++ n ∷ [])
entries_more s [] [] k n are at = (at, tt)
entries_more s [] (m ∷ ns) k n are at = absurd are
entries_more s (j ∷ ks) [] k n are at = absurd are
entries_more s (j ∷ ks) (m ∷ ns) k n are at = (are.0, entries_more s ks ns k n are.1 at)

-- one more token of an entry, and the entry's number
pub entries_pushed : (s : Scanner) (ks ks' : List ScanToken) (ns ns' : List ℕ) (k : ScanToken) (n m : ℕ) (t : TerminalString)
    → AreEntriesOf s ks ns → IsTerminalAt s m t → n ≡ m → k.terminal ≡ t → ks' ≡ ks ++ k ∷ [] → ns' ≡ ns ++ n ∷ []
    → AreEntriesOf s ks' ns'
entries_pushed s ks ks' ns ns' k n m t are at n_is t_is ks_are ns_are =
    let there : IsTerminalAt s n k.terminal =
    subst (λ i. IsTerminalAt s i k.terminal) (sym n_is) (subst (IsTerminalAt s m) (sym t_is) at) in
    subst (λ l. AreEntriesOf s l ns') (sym ks_are)
    (subst (AreEntriesOf s (ks ++ k ∷ [])) (sym ns_are) (entries_more s ks ns k n are there))
