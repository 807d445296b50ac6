-- What an automaton's answer and the whitespace at the front say of the piece there. For the scanner.
use Rattle.std.proofs.Common.{◌≡◌, ℕ, ◌+◌, ◌<◌, ◌≤◌, Bool, true, false, not, cond, List, [], ◌∷◌, Option, Some}
use Rattle.std.proofs.Common.{None, length, map, refl, sym, ap, subst, ◌∙◌, arith, option_map, get_or, length-append}
use Rattle.std.specs.Prelude.{slice_get, option_and_then}
use Rattle.std.specs.Str.{chars, IsUtf8}
use Rattle.std.proofs.lemmas.Str.{chars-append}
use Rattle.std.proofs.lemmas.Option.{slice_get-map, slice_get-get_or}
use Rattle.std.proofs.lemmas.List.{length-map}
use Rattle.lalrpop_grammar_symbols.specs.Symbols.{Text, Terminal}
use Rattle.lalrpop_grammar_symbols.specs.Views.{terminal_view}
use Rattle.lalrpop_grammar_symbols.specs.declared.terminal.TerminalString.{TerminalString}
use Rattle.lalrpop_lexer_pattern.specs.Wins.{IsLongest, HasNoMatch}
use Rattle.lalrpop_lexer.specs.Simulation.{StateView, next_state_view, better_answer, simulate, answer_of, IsAnswer}
use Rattle.lalrpop_lexer.specs.Answer.{IsAnswerFront}
use Rattle.lalrpop_lexer_scan.specs.declared.scanner.Scanner.{Scanner}
use Rattle.lalrpop_lexer_scan.specs.Entries.{ScanEntry, patterns, precedences, some_skips}
use Rattle.lalrpop_lexer_scan.specs.Pieces.{blanks, default_skip, Piece}
use Rattle.lalrpop_lexer_scan.specs.Tokens.{terminal_unless_skip}
use Rattle.lalrpop_lexer_scan.specs.Scanning.{IsScannerOf, skip_count, IsFoundPiece, HasNoPiece}
use Rattle.lalrpop_lexer_scan.proofs.FillLemmas.{blanks_le}
use Rattle.lalrpop_lexer_scan.proofs.TextLemmas.{front_of, front_is, not_longer_front, shorter_front}

-- an answer counts some characters
abbrev IsPositive : Option (ℕ × ℕ) → Type 0
IsPositive None = Unit {0}
IsPositive (Some x) = 0 < x.1

better_positive : (o : Option StateView) (n : ℕ) (best : Option (ℕ × ℕ)) → IsPositive best
    → IsPositive (better_answer o (n + 1) best)
better_positive None n best h = h
better_positive (Some (None, edges)) n best h = h
better_positive (Some (Some e, edges)) n best h = omega arith

walk_positive : (nodes : List StateView) (text : List ℕ) (s : Option StateView) (n : ℕ) (best : Option (ℕ × ℕ)) → IsPositive best
    → IsPositive (simulate nodes text s n best)
walk_positive nodes text None n best h = h
walk_positive nodes [] (Some s) n best h = h
walk_positive nodes (c ∷ text) (Some s) n best h =
    walk_positive nodes text (next_state_view nodes s c) (n + 1) (better_answer (next_state_view nodes s c) (n + 1) best)
    (better_positive (next_state_view nodes s c) n best h)

answer_positive : (nodes : List StateView) (text : List ℕ) (e n : ℕ) → answer_of nodes text ≡ Some (e, n) → 0 < n
answer_positive nodes text e n h = subst IsPositive h (walk_positive nodes text (slice_get nodes 0) 0 None tt)

turned : (b : Bool) (n : ℕ) → cond (not b) n 0 ≡ cond b 0 n
turned true n = refl
turned false n = refl

-- what the scanner skips is the default skip
skipped_default : (s : Scanner) (es : List ScanEntry) (cs : List ℕ) → IsScannerOf s es → skip_count s cs ≡ default_skip es cs
skipped_default s es cs h =
    ap (λ b. cond b (blanks cs) 0) h.blanks_are
    ∙ turned (some_skips es) (blanks cs)

skipped_le : (s : Scanner) (cs : List ℕ) → skip_count s cs ≤ length cs
skipped_le s cs =
    let within : blanks cs ≤ length cs = blanks_le cs in
    elim s.skips_blanks as (λ b. cond b (blanks cs) 0 ≤ length cs) [ true ↦ within | false ↦ omega arith ]

-- the terminal of an entry
only : (o : Option ScanEntry) (x : Option Terminal) → option_map terminal_unless_skip o ≡ Some x
    → option_and_then terminal_unless_skip o ≡ x
only None x h = cc
only (Some e) x h = cc

terminal_kept : (s : Scanner) (es : List ScanEntry) (e : ℕ) (t : Option TerminalString) → IsScannerOf s es
    → slice_get s.terminals.items e ≡ Some t → option_and_then terminal_unless_skip (slice_get es e) ≡ option_map terminal_view t
terminal_kept s es e t h k =
    only (slice_get es e) (option_map terminal_view t)
    (sym (slice_get-map terminal_unless_skip es e)
    ∙ ap (λ (l : List (Option Terminal)). slice_get l e) (sym h.terminals)
    ∙ slice_get-map (option_map terminal_view) s.terminals.items e
    ∙ ap (option_map (option_map terminal_view)) k)

module _ (s : Scanner) (text : Text) where
  abbrev cs : List ℕ
  cs = chars text

  longest : (word : Text) (e : ℕ) (a : IsAnswerFront s.dfa text e word) (es : List ScanEntry) → IsScannerOf s es
      → IsLongest (patterns es) (precedences es) cs (length (chars word)) e
  longest word e a es h = subst (IsAnswer (patterns es) (precedences es) cs) a.answer (h.decides cs)

  word_within : (word : Text) (e : ℕ) (a : IsAnswerFront s.dfa text e word) → IsUtf8 word → length (chars word) ≤ length cs
  word_within word e a u =
      omega (arith, ap length (ap chars a.is ∙ chars-append word a.rest u), length-append (chars word) (chars a.rest))

  -- the entry's word is longer than what is skipped
  pub word_found : (word front : Text) (e : ℕ) (t : Option TerminalString) (a : IsAnswerFront s.dfa text e word) → IsUtf8 word
      → front ≡ front_of text (skip_count s cs) → length front < length word → slice_get s.terminals.items e ≡ Some t
      → IsFoundPiece s text word (option_map terminal_view t)
  word_found word front e t a u f l k =
      let n = length (chars word) in
      let is : word ≡ front_of text n = front_is text word a.rest u a.is in
      let less : skip_count s cs < n =
      shorter_front cs (skip_count s cs) n (skipped_le s cs) (omega (arith, ap length f, ap length is)) in
      record {
        count = n;
        some = answer_positive s.dfa cs e n a.answer;
        within = word_within word e a u;
        front_is = is;
        piece = λ es h.
            let same : skip_count s cs ≡ default_skip es cs = skipped_default s es cs h in
            let least : default_skip es cs < n = omega arith in
            (Piece.taken n e, ((longest word e a es h, least), (refl, terminal_kept s es e t h k)));
      }

  -- what is skipped is as long as the entry's word
  pub blank_over : (word front : Text) (e : ℕ) (a : IsAnswerFront s.dfa text e word) → IsUtf8 word
      → front ≡ front_of text (skip_count s cs) → length word ≤ length front → IsFoundPiece s text front None
  blank_over word front e a u f l =
      let n = length (chars word) in
      let is : word ≡ front_of text n = front_is text word a.rest u a.is in
      let some : 0 < n = answer_positive s.dfa cs e n a.answer in
      let less : n ≤ skip_count s cs =
      not_longer_front cs (skip_count s cs) n (word_within word e a u) (omega (arith, ap length f, ap length is)) in
      record {
        count = skip_count s cs;
        some = omega arith;
        within = skipped_le s cs;
        front_is = f;
        piece = λ es h. (
          Piece.blank (skip_count s cs),
          (
            (
              omega arith,
              skipped_default s es cs h,
              λ m g more within matches. (longest word e a es h).longest m g (omega arith) within matches,
            ),
            (refl, refl),
          ),
        );
      }

  -- the entry's terminal is there
  pub no_terminal : (word : Text) (e : ℕ) (a : IsAnswerFront s.dfa text e word) → slice_get s.terminals.items e ≡ None
      → HasNoPiece s text
  no_terminal word e a k es h =
      let inside : e < length (patterns es) = (longest word e a es h).wins.0.0 in
      let one : length (patterns es) ≡ length es = length-map es (λ (x : ScanEntry). x.pattern) in
      let two : length (map terminal_unless_skip es) ≡ length es = length-map es terminal_unless_skip in
      let three : length (map (option_map terminal_view) s.terminals.items) ≡ length s.terminals.items =
      length-map s.terminals.items (option_map terminal_view) in
      let four : length (map (option_map terminal_view) s.terminals.items) ≡ length (map terminal_unless_skip es) =
      ap length h.terminals in
      let there : slice_get s.terminals.items e ≡ Some (get_or s.terminals.items e None) =
      slice_get-get_or s.terminals.items e None (omega arith) in
      cc

  no_match : answer_of s.dfa cs ≡ None → (es : List ScanEntry) → IsScannerOf s es → HasNoMatch (patterns es) cs
  no_match a es h = subst (IsAnswer (patterns es) (precedences es) cs) a (h.decides cs)

  -- no entry matches
  pub blank_alone : (front : Text) → answer_of s.dfa cs ≡ None → front ≡ front_of text (skip_count s cs) → 0 < length front
      → IsFoundPiece s text front None
  blank_alone front a f l =
      let none : length (front_of text 0) ≡ 0 = refl in
      let some : 0 < skip_count s cs = shorter_front cs 0 (skip_count s cs) (omega arith) (omega (arith, ap length f, none)) in
      record {
        count = skip_count s cs;
        some = some;
        within = skipped_le s cs;
        front_is = f;
        piece = λ es h. (
          Piece.blank (skip_count s cs),
          (
            (some, skipped_default s es cs h, λ m g more within matches. no_match a es h m g (omega arith) within matches),
            (refl, refl),
          ),
        );
      }

  -- where no entry matches and nothing is skipped, the text has no piece at its front
  pub nothing_found : (front : Text) → answer_of s.dfa cs ≡ None → front ≡ front_of text (skip_count s cs) → length front ≡ 0
      → HasNoPiece s text
  nothing_found front a f l es h =
      let none : length (front_of text 0) ≡ 0 = refl in
      let zero_ : skip_count s cs ≤ 0 = not_longer_front cs 0 (skip_count s cs) (skipped_le s cs) (omega (arith, ap length f, none)) in
      let same : skip_count s cs ≡ default_skip es cs = skipped_default s es cs h in
      (no_match a es h, omega arith)
