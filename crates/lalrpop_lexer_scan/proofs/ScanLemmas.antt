-- A scan that has come to some byte of its text. For the scanner.
use Rattle.std.proofs.Common.{◌≡◌, ℕ, ◌+◌, ◌-◌, ◌<◌, ◌≤◌, List, [], ◌∷◌, ◌++◌, Option, Some, None}
use Rattle.std.proofs.Common.{length, take, drop, refl, sym, ap, ap₂, subst, ◌∙◌, arith, encode_utf8_all, length-append}
use Rattle.std.proofs.Common.{append_assoc, append-nil}
use Rattle.std.specs.List.{AllByRecursion}
use Rattle.std.specs.Str.{chars, IsUtf8, IsCharBoundary}
use Rattle.std.proofs.lemmas.Str.{chars-nil, encodes-chars, length-le-encodes}
use Rattle.std.proofs.lemmas.List.{take-append-drop, length-take-le, nil_from_length}
use Rattle.std.proofs.lemmas.Grind.{flat_map-append}
use Rattle.lalrpop_grammar_symbols.specs.Symbols.{Text, Terminal}
use Rattle.lalrpop_grammar.specs.Trees.{Token}
use Rattle.lalrpop_lexer.specs.declared.dead_ends.DeadEnds.{DeadEnds}
use Rattle.lalrpop_lexer.specs.Simulation.{StateView}
use Rattle.lalrpop_lexer.specs.Walks.{AreDeadEnds}
use Rattle.lalrpop_lexer.proofs.DeadEndLemmas.{ends_of_rest}
use Rattle.lalrpop_lexer_scan.specs.declared.scanner.Scanner.{Scanner}
use Rattle.lalrpop_lexer_scan.specs.Entries.{ScanEntry}
use Rattle.lalrpop_lexer_scan.specs.Pieces.{Piece, piece_size, IsPieceAt, IsCut}
use Rattle.lalrpop_lexer_scan.specs.Tokens.{TextPart, join_parts, with_token, tokens_from, parts_of, terminal_of, AreTokensOf, NoTokenAt}
use Rattle.lalrpop_lexer_scan.specs.Tokens.{FillTheText}
use Rattle.lalrpop_lexer_scan.specs.Scanning.{IsScannerOf, token_of, IsFoundPiece, HasNoPiece}
use Rattle.lalrpop_lexer_scan.proofs.TextLemmas.{front_of, back_of, split, back_utf8, chars_back, back_left, front_boundary}

-- one more part
joined-snoc : (ps : List TextPart) (p : TextPart) → join_parts (ps ++ p ∷ []) ≡ join_parts ps ++ p.bytes
joined-snoc ps p = flat_map-append (λ (q : TextPart). q.bytes) ps (p ∷ [])
    ∙ ap (λ (t : Text). join_parts ps ++ t) (append-nil p.bytes)

with_token-append : (at : ℕ) (t : Option Terminal) (bytes : Text) (more last : List Token)
    → with_token at t bytes (more ++ last) ≡ with_token at t bytes more ++ last
with_token-append at None bytes more last = refl
with_token-append at (Some t) bytes more last = refl

tokens_from-snoc : (at : ℕ) (ps : List TextPart) (p : TextPart)
    → tokens_from at (ps ++ p ∷ []) ≡ tokens_from at ps ++ with_token (at + length (join_parts ps)) p.terminal p.bytes []
tokens_from-snoc at [] p = let same : at ≡ at + 0 = omega arith in ap (λ n. with_token n p.terminal p.bytes []) same
tokens_from-snoc at (q ∷ ps) p =
    let place : at + length q.bytes + length (join_parts ps) ≡ at + length (q.bytes ++ join_parts ps) =
    omega (arith, length-append q.bytes (join_parts ps)) in
    ap (with_token at q.terminal q.bytes)
    (tokens_from-snoc (at + length q.bytes) ps p
    ∙ ap (λ n. tokens_from (at + length q.bytes) ps ++ with_token n p.terminal p.bytes []) place)
    ∙ with_token-append at q.terminal q.bytes (tokens_from (at + length q.bytes) ps)
    (with_token (at + length (join_parts (q ∷ ps))) p.terminal p.bytes [])

All-snoc : (P : TextPart → Type 0) (ps : List TextPart) (p : TextPart) → AllByRecursion P ps → P p
    → AllByRecursion P (ps ++ p ∷ [])
All-snoc P [] p h k = (k, tt)
All-snoc P (q ∷ ps) p h k = (h.0, All-snoc P ps p h.1 k)

-- one more piece
IsCut-snoc : (es : List ScanEntry) (text : List ℕ) (ps : List Piece) (p : Piece) (rest : List ℕ) → IsCut es text ps rest
    → IsPieceAt es rest p → IsCut es text (ps ++ p ∷ []) (drop (piece_size p) rest)
IsCut-snoc es text [] p rest h k = (subst (λ (t : List ℕ). IsPieceAt es t p) (sym h) k, ap (drop (piece_size p)) h)
IsCut-snoc es text (q ∷ ps) p rest h k = (h.0, IsCut-snoc es (drop (piece_size q) text) ps p rest h.1 k)

parts_of-snoc : (es : List ScanEntry) (text : List ℕ) (ps : List Piece) (p : Piece) (rest : List ℕ) → IsCut es text ps rest
    → parts_of es text (ps ++ p ∷ [])
    ≡ parts_of es text ps ++ record { terminal = terminal_of es p; bytes = encode_utf8_all (take (piece_size p) rest) } ∷ []
parts_of-snoc es text [] p rest h = ap (λ (t : List ℕ). parts_of es t (p ∷ [])) h
parts_of-snoc es text (q ∷ ps) p rest h =
    ap (λ (l : List TextPart). record { terminal = terminal_of es q; bytes = encode_utf8_all (take (piece_size q) text) } ∷ l)
    (parts_of-snoc es (drop (piece_size q) text) ps p rest h.1)

-- by the entries the scan has cut these parts
pub record HasCut (es : List ScanEntry) (text rest : Text) (parts : List TextPart) : Type 0 where
  pub pieces : List Piece
  pub cut : IsCut es (chars text) pieces (chars rest)
  pub parts_are : parts_of es (chars text) pieces ≡ parts

-- the rest of the text is left, and these are the tokens so far
pub record IsScanned (s : Scanner) (text rest : Text) (tokens : List Token) : Type 0 where
  pub parts : List TextPart
  pub text_is : text ≡ join_parts parts ++ rest
  pub nonempty : AllByRecursion (λ (p : TextPart). 0 < length p.bytes) parts
  pub tokens_are : tokens ≡ tokens_from 0 parts
  pub utf8 : IsUtf8 rest
  pub cut : (es : List ScanEntry) → IsScannerOf s es → HasCut es text rest parts

token_of-with : (at : ℕ) (t : Option Terminal) (bytes : Text) → token_of t bytes (at, at + length bytes) ≡ with_token at t bytes []
token_of-with at None bytes = refl
token_of-with at (Some t) bytes = refl

pub scan_start : (s : Scanner) (text : Text) → IsUtf8 text → IsScanned s text text []
scan_start s text u = record {
  parts = [];
  text_is = refl;
  nonempty = tt;
  tokens_are = refl;
  utf8 = u;
  cut = λ es h. record { pieces = []; cut = refl; parts_are = refl };
}

-- the byte that the scan has come to
pub scan_place : (s : Scanner) (text rest : Text) (tokens : List Token) (h : IsScanned s text rest tokens)
    → length text - length rest ≡ length (join_parts h.parts)
scan_place s text rest tokens h = omega (arith, ap length h.text_is, length-append (join_parts h.parts) rest)

front_some : (s : Scanner) (rest front : Text) (t : Option Terminal) (f : IsFoundPiece s rest front t) → 0 < length front
front_some s rest front t f =
    let long : length (take f.count (chars rest)) ≡ f.count = length-take-le f.count (chars rest) f.within in
    let bytes : length (take f.count (chars rest)) ≤ length (front_of rest f.count) = length-le-encodes (take f.count (chars rest)) in
    let some : 0 < f.count = f.some in
    omega (arith, ap length f.front_is)

some_chars : (cs : List ℕ) → 0 < length (encode_utf8_all cs) → 0 < length cs
some_chars [] h = h
some_chars (c ∷ cs) h = omega arith

same_part : (t u : Option Terminal) (x y : Text) → t ≡ u → x ≡ y
    → ◌≡◌ {A = TextPart} (record { terminal = t; bytes = x }) (record { terminal = u; bytes = y })
same_part t u x y e f = ap₂ (λ (a : Option Terminal) (b : Text). record { terminal = a; bytes = b }) e f

module _ (s : Scanner) (text rest : Text) (tokens : List Token) (h : IsScanned s text rest tokens) where
  -- one more piece has been found
  pub scan_step : (front back : Text) (t : Option Terminal) (more : List Token) → IsFoundPiece s rest front t
      → back ≡ drop (length front) rest
      → more ≡ tokens ++ token_of t front (length text - length rest, length text - length back) → IsScanned s text back more
  scan_step front back t more f e are =
      let at : ℕ = length text - length rest in
      let p : TextPart = record { terminal = t; bytes = front } in
      let back_is : back ≡ back_of rest f.count =
      e ∙ ap (λ (x : Text). drop (length x) rest) f.front_is ∙ back_left rest h.utf8 f.count in
      let rest_is : rest ≡ front ++ back =
      split rest h.utf8 f.count ∙ ap (λ (x : Text). x ++ back_of rest f.count) (sym f.front_is)
      ∙ ap (λ (x : Text). front ++ x) (sym back_is) in
      let at_is : at ≡ length (join_parts h.parts) = scan_place s text rest tokens h in
      let end_is : length text - length back ≡ at + length front =
      omega (arith, ap length h.text_is, length-append (join_parts h.parts) rest, ap length rest_is, length-append front back) in
      record {
        parts = h.parts ++ p ∷ [];
        text_is = h.text_is ∙ ap (λ (x : Text). join_parts h.parts ++ x) rest_is ∙ sym (append_assoc (join_parts h.parts) front back)
            ∙ ap (λ (x : Text). x ++ back) (sym (joined-snoc h.parts p));
        nonempty = All-snoc (λ (q : TextPart). 0 < length q.bytes) h.parts p h.nonempty (front_some s rest front t f);
        tokens_are =
            are ∙ ap (λ n. tokens ++ token_of t front (at, n)) end_is
            ∙ ap (λ (l : List Token). tokens ++ l) (token_of-with at t front)
            ∙ ap (λ (l : List Token). l ++ with_token at t front []) h.tokens_are
            ∙ ap (λ n. tokens_from 0 h.parts ++ with_token n t front []) at_is
            ∙ (let zero_ : length (join_parts h.parts) ≡ 0 + length (join_parts h.parts) = omega arith in
            ap (λ n. tokens_from 0 h.parts ++ with_token n t front []) zero_)
            ∙ sym (tokens_from-snoc 0 h.parts p);
        utf8 = subst IsUtf8 (sym back_is) (back_utf8 rest h.utf8 f.count);
        cut = λ es k.
            let before : HasCut es text rest h.parts = h.cut es k in
            let found = f.piece es k in
            let left : drop (piece_size found.0) (chars rest) ≡ chars back =
            ap (λ n. drop n (chars rest)) found.1.1.0 ∙ sym (chars_back rest h.utf8 f.count) ∙ ap chars (sym back_is) in
            let same : ◌≡◌ {A = TextPart}
            (record { terminal = terminal_of es found.0; bytes = encode_utf8_all (take (piece_size found.0) (chars rest)) }) p =
            same_part (terminal_of es found.0) t (encode_utf8_all (take (piece_size found.0) (chars rest))) front found.1.1.1
            (ap (λ n. encode_utf8_all (take n (chars rest))) found.1.1.0 ∙ sym f.front_is) in
            record {
              pieces = before.pieces ++ found.0 ∷ [];
              cut = subst (IsCut es (chars text) (before.pieces ++ found.0 ∷ [])) left
                  (IsCut-snoc es (chars text) before.pieces found.0 (chars rest) before.cut found.1.0);
              parts_are =
                  parts_of-snoc es (chars text) before.pieces found.0 (chars rest) before.cut
                  ∙ ap (λ (l : List TextPart). l ++ record {
                    terminal = terminal_of es found.0;
                    bytes = encode_utf8_all (take (piece_size found.0) (chars rest));
                  } ∷ []) before.parts_are
                  ∙ ap (λ (q : TextPart). h.parts ++ q ∷ []) same;
            };
      }

  pub rest_le : length rest ≤ length text
  rest_le = omega (arith, ap length h.text_is, length-append (join_parts h.parts) rest)

  -- after a piece the text goes on at a character, and is shorter
  pub piece_boundary : (front : Text) (t : Option Terminal) → IsFoundPiece s rest front t → IsCharBoundary rest (length front)
  piece_boundary front t f = subst (λ (x : Text). IsCharBoundary rest (length x)) (sym f.front_is) (front_boundary rest h.utf8 f.count)

  -- a piece that is found isn't empty
  pub piece_some : (front : Text) (t : Option Terminal) → IsFoundPiece s rest front t → 0 < length front
  piece_some front t f = front_some s rest front t f

  -- the scan has come to the end
  pub scan_fills : length rest ≡ 0 → FillTheText text tokens
  scan_fills end = record {
    parts = h.parts;
    joined_are = sym (h.text_is ∙ ap (λ (x : Text). join_parts h.parts ++ x) (nil_from_length rest end)
        ∙ append-nil (join_parts h.parts));
    nonempty = h.nonempty;
    tokens_are = h.tokens_are;
  }

  -- at the end the tokens are those of the text, by all entries that the scanner is for
  pub scan_tokens : length rest ≡ 0 → (es : List ScanEntry) → IsScannerOf s es → AreTokensOf es (chars text) tokens
  scan_tokens end es k =
      let before : HasCut es text rest h.parts = h.cut es k in
      record {
        pieces = before.pieces;
        cut = subst (IsCut es (chars text) before.pieces) (ap chars (nil_from_length rest end) ∙ chars-nil) before.cut;
        tokens_are = h.tokens_are ∙ ap (tokens_from 0) (sym before.parts_are);
      }

  -- the scan can't go on
  pub scan_stuck : 0 < length rest → HasNoPiece s rest → (es : List ScanEntry) → IsScannerOf s es
      → NoTokenAt es (chars text) (length text - length rest)
  scan_stuck some none es k =
      let before : HasCut es text rest h.parts = h.cut es k in
      record {
        pieces = before.pieces;
        rest = chars rest;
        cut = before.cut;
        reaches = scan_place s text rest tokens h ∙ ap (λ (l : List TextPart). length (join_parts l)) (sym before.parts_are);
        stuck = record {
          left = some_chars (chars rest) (omega (arith, ap length (encodes-chars rest h.utf8)));
          no_entry = (none es k).0;
          no_blank = (none es k).1;
        };
      }

-- dead ends of a text are dead ends of what is left of it behind a front
pub ends_left : (nodes : List StateView) (text front rest : Text) (ends : DeadEnds) → rest ≡ drop (length front) text
    → AreDeadEnds nodes text ends → AreDeadEnds nodes rest ends
ends_left nodes text front rest ends is all =
    let cut : text ≡ take (length front) text ++ rest =
    sym (take-append-drop (length front) text) ∙ ap (λ (t : Text). take (length front) text ++ t) (sym is) in
    ends_of_rest nodes text (take (length front) text) rest ends cut all
