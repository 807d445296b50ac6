-- Tokens and skipped parts fill their text. For the laws of tokens, and for the scan.
use Rattle.std.proofs.Common.{◌≡◌, ℕ, ◌+◌, ◌-◌, ◌<◌, ◌≤◌, List, [], ◌∷◌, ◌++◌, length, take, drop, refl}
use Rattle.std.proofs.Common.{sym, ap, subst, ◌∙◌, arith, Option, Some, None, encode_utf8_all, length-append, append_assoc}
use Rattle.std.proofs.Common.{append-nil, true, false, cond}
use Rattle.std.specs.List.{AllByRecursion, slice_range}
use Rattle.std.specs.Char.{is_whitespace}
use Rattle.std.proofs.lemmas.Str.{encodes-append, length-le-encodes}
use Rattle.std.proofs.lemmas.List.{take-append-drop, length-take-le, take_at, drop_at}
use Rattle.lalrpop_grammar_symbols.specs.Symbols.{Text, Terminal}
use Rattle.lalrpop_grammar.specs.Trees.{Token}
use Rattle.lalrpop_lexer_scan.specs.Entries.{ScanEntry, some_skips}
use Rattle.lalrpop_lexer_scan.specs.Pieces.{blanks, default_skip, Piece, piece_size, IsPieceAt, IsCut}
use Rattle.lalrpop_lexer_scan.specs.Tokens.{TextPart, join_parts, with_token, tokens_from, parts_of, AreTokensOf, FillTheText, StandsIn}

-- the run of whitespace at the front is within the text
pub blanks_le : (text : List ℕ) → blanks text ≤ length text
blanks_le [] = omega arith
blanks_le (c ∷ cs) = let more : blanks cs ≤ length cs = blanks_le cs in
    elim (is_whitespace c) as (λ b. cond b (1 + blanks cs) 0 ≤ length (c ∷ cs)) [ true ↦ omega arith | false ↦ omega arith ]

pub default_le : (es : List ScanEntry) (text : List ℕ) → default_skip es text ≤ length text
default_le es text = let within : blanks text ≤ length text = blanks_le text in
    elim (some_skips es) as (λ b. cond b 0 (blanks text) ≤ length text) [ true ↦ omega arith | false ↦ within ]

-- a piece is nonempty and within its text
pub size_some : (es : List ScanEntry) (text : List ℕ) (p : Piece) → IsPieceAt es text p → 0 < piece_size p
size_some es text (Piece.blank n) h = h.0
size_some es text (Piece.taken n e) h = h.0.nonempty

pub size_within : (es : List ScanEntry) (text : List ℕ) (p : Piece) → IsPieceAt es text p → piece_size p ≤ length text
size_within es text (Piece.blank n) h =
    let is : n ≡ default_skip es text = h.1 in let within : default_skip es text ≤ length text = default_le es text in omega arith
size_within es text (Piece.taken n e) h = h.0.within

filled : (es : List ScanEntry) (text : List ℕ) (ps : List Piece) (rest : List ℕ) → IsCut es text ps rest
    → join_parts (parts_of es text ps) ++ encode_utf8_all rest ≡ encode_utf8_all text
filled es text [] rest h = ap encode_utf8_all (sym h)
filled es text (p ∷ ps) rest h =
    append_assoc (encode_utf8_all (take (piece_size p) text)) (join_parts (parts_of es (drop (piece_size p) text) ps))
    (encode_utf8_all rest)
    ∙ ap (λ (t : Text). encode_utf8_all (take (piece_size p) text) ++ t) (filled es (drop (piece_size p) text) ps rest h.1)
    ∙ sym (encodes-append (take (piece_size p) text) (drop (piece_size p) text))
    ∙ ap encode_utf8_all (take-append-drop (piece_size p) text)

nonempty : (es : List ScanEntry) (text : List ℕ) (ps : List Piece) (rest : List ℕ) → IsCut es text ps rest
    → AllByRecursion (λ (p : TextPart). 0 < length p.bytes) (parts_of es text ps)
nonempty es text [] rest h = tt
nonempty es text (p ∷ ps) rest h =
    let some : 0 < piece_size p = size_some es text p h.0 in
    let long : length (take (piece_size p) text) ≡ piece_size p = length-take-le (piece_size p) text (size_within es text p h.0) in
    let bytes : length (take (piece_size p) text) ≤ length (encode_utf8_all (take (piece_size p) text)) =
    length-le-encodes (take (piece_size p) text) in
    let first : 0 < length (encode_utf8_all (take (piece_size p) text)) = omega arith in
    (first, nonempty es (drop (piece_size p) text) ps rest h.1)

-- the tokens of a text and its skipped parts, joined, are the text
pub tokens_fill : (es : List ScanEntry) (text : List ℕ) (ts : List Token) → AreTokensOf es text ts
    → FillTheText (encode_utf8_all text) ts
tokens_fill es text ts h = record {
  parts = parts_of es text h.pieces;
  joined_are = sym (append-nil (join_parts (parts_of es text h.pieces))) ∙ filled es text h.pieces [] h.cut;
  nonempty = nonempty es text h.pieces [] h.cut;
  tokens_are = h.tokens_are;
}

-- the part behind some bytes
behind : (front part back : Text) → slice_range (front ++ (part ++ back)) (length front) (length front + length part) ≡ part
behind front part back =
    let piece_size : length front + length part - length front ≡ length part = omega arith in
    rw (piece_size, drop_at front (part ++ back) (length front) refl) (take_at part back (length part) refl)

with_each : (P : Token → Type 0) (at : ℕ) (t : Option Terminal) (bytes : Text) (more : List Token)
    → ((x : Terminal) → P (record { terminal = x; text = bytes; span = (at, at + length bytes) }))
    → AllByRecursion P more → AllByRecursion P (with_token at t bytes more)
with_each P at None bytes more h k = k
with_each P at (Some t) bytes more h k = (h t, k)

one_stands : (front bytes back : Text) (at : ℕ) (t : Terminal) → at ≡ length front → 0 < length bytes
    → StandsIn (front ++ (bytes ++ back)) (record { terminal = t; text = bytes; span = (at, at + length bytes) })
one_stands front bytes back at t e some = record {
  nonempty = omega arith;
  within = simp length-append (omega arith);
  text_is = rw e (behind front bytes back);
}

stand : (front : Text) (ps : List TextPart) (at : ℕ) → at ≡ length front → AllByRecursion (λ (p : TextPart). 0 < length p.bytes) ps
    → AllByRecursion (StandsIn (front ++ join_parts ps)) (tokens_from at ps)
stand front [] at e h = tt
stand front (p ∷ ps) at e h =
    let next : at + length p.bytes ≡ length (front ++ p.bytes) = simp length-append (omega arith) in
    with_each (StandsIn (front ++ join_parts (p ∷ ps))) at p.terminal p.bytes (tokens_from (at + length p.bytes) ps)
    (λ t. one_stands front p.bytes (join_parts ps) at t e h.0)
    (subst (λ (t : Text). AllByRecursion (StandsIn t) (tokens_from (at + length p.bytes) ps)) (append_assoc front p.bytes (join_parts ps))
    (stand (front ++ p.bytes) ps (at + length p.bytes) next h.1))

-- tokens that fill a text with skipped parts stand where their spans say
pub tokens_stand : (text : Text) (ts : List Token) → FillTheText text ts → AllByRecursion (StandsIn text) ts
tokens_stand text ts h =
    subst (AllByRecursion (StandsIn text)) (sym h.tokens_are)
    (subst (λ (t : Text). AllByRecursion (StandsIn t) (tokens_from 0 h.parts)) h.joined_are (stand [] h.parts 0 refl h.nonempty))
