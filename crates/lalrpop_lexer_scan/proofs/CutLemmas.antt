-- Entries cut a text in one way. For the laws of cuts.
use Rattle.std.proofs.Common.{◌≡◌, ℕ, ◌<◌, ◌≤◌, List, [], ◌∷◌, length, take, drop, refl, sym, ap, ap₂, subst}
use Rattle.std.proofs.Common.{◌∙◌, ⊎_elim, arith, slice_index, Bool, true, false, cond}
use Rattle.std.proofs.lemmas.Bool.{cases_lt, cases_eq}
use Rattle.lalrpop_grammar.specs.Trees.{Token}
use Rattle.lalrpop_lexer_pattern.specs.Wins.{Wins, IsLongest}
use Rattle.lalrpop_lexer_scan.specs.Entries.{ScanEntry, patterns, precedences, some_skips}
use Rattle.lalrpop_lexer_scan.specs.Pieces.{default_skip, Piece, piece_size, IsPieceAt, IsCut, IsStuck}
use Rattle.lalrpop_lexer_scan.specs.Tokens.{join_parts, parts_of, tokens_from, AreTokensOf, NoTokenAt}

-- one length, one winner
same_length : (es : List ScanEntry) (text : List ℕ) (m d n e : ℕ) → IsLongest (patterns es) (precedences es) text m d
    → IsLongest (patterns es) (precedences es) text n e → m ≡ n
same_length es text m d n e h k =
    ⊎_elim (λ l. absurd (h.longest n e l k.within k.wins.0))
    (λ l. ⊎_elim (λ g. absurd (k.longest m d g h.within h.wins.0)) (λ g. omega arith) (cases_lt n m)) (cases_lt m n)

same_winner : (es : List ScanEntry) (w : List ℕ) (d e : ℕ) → Wins (patterns es) (precedences es) w d
    → Wins (patterns es) (precedences es) w e → d ≡ e
same_winner es w d e h k =
    ⊎_elim (λ s. s)
    (λ apart. absurd (let one : slice_index (precedences es) d < slice_index (precedences es) e = k.1 d apart h.0 in
    let two : slice_index (precedences es) e < slice_index (precedences es) d = h.1 e (λ s. apart (sym s)) k.0 in omega arith))
    (cases_eq d e)

same_taken : (es : List ScanEntry) (text : List ℕ) (m d n e : ℕ) → IsLongest (patterns es) (precedences es) text m d
    → IsLongest (patterns es) (precedences es) text n e → Piece.taken m d ≡ Piece.taken n e
same_taken es text m d n e h k =
    let lengths : m ≡ n = same_length es text m d n e h k in
    ap₂ Piece.taken lengths
    (same_winner es (take n text) d e (subst (λ (l : ℕ). Wins (patterns es) (precedences es) (take l text) d) lengths h.wins) k.wins)

same_piece : (es : List ScanEntry) (text : List ℕ) (p q : Piece) → IsPieceAt es text p → IsPieceAt es text q → p ≡ q
same_piece es text (Piece.blank m) (Piece.blank n) h k = ap Piece.blank (h.1 ∙ sym k.1)
same_piece es text (Piece.blank m) (Piece.taken n e) h k =
    absurd (h.2 n e (let less : default_skip es text < n = k.1 in let is : m ≡ default_skip es text = h.1 in omega arith) k.0.within
    k.0.wins.0)
same_piece es text (Piece.taken m d) (Piece.blank n) h k =
    absurd (k.2 m d (let less : default_skip es text < m = h.1 in let is : n ≡ default_skip es text = k.1 in omega arith) h.0.within
    h.0.wins.0)
same_piece es text (Piece.taken m d) (Piece.taken n e) h k = same_taken es text m d n e h.0 k.0

-- no piece stands at the front
abbrev pub IsEnded : List ScanEntry → List ℕ → Type 0
IsEnded es rest = (p : Piece) → IsPieceAt es rest p → ⊥

no_default : (b : Bool) → ◌≡◌ {A = ℕ} (cond b 0 0) 0
no_default true = refl
no_default false = refl

pub end_is_ended : (es : List ScanEntry) → IsEnded es []
end_is_ended es (Piece.blank n) h =
    let is : n ≡ default_skip es [] =
    h.1 in let none : default_skip es [] ≡ 0 = no_default (some_skips es) in let some : 0 < n = h.0 in omega arith
end_is_ended es (Piece.taken n e) h = let some : 0 < n = h.0.nonempty in let within : n ≤ 0 = h.0.within in omega arith

pub stuck_is_ended : (es : List ScanEntry) (rest : List ℕ) → IsStuck es rest → IsEnded es rest
stuck_is_ended es rest s (Piece.blank n) h =
    let is : n ≡ default_skip es rest = h.1 in let none : default_skip es rest ≡ 0 = s.no_blank in let some : 0 < n = h.0 in omega arith
stuck_is_ended es rest s (Piece.taken n e) h = s.no_entry n e h.0.nonempty h.0.within h.0.wins.0

-- two cuts that can't go on are one
pub record AreSame (ps qs : List Piece) (r s : List ℕ) : Type 0 where
  pub pieces : ps ≡ qs
  pub rests : r ≡ s

pub same_cut : (es : List ScanEntry) (text : List ℕ) (ps qs : List Piece) (r s : List ℕ) → IsEnded es r → IsEnded es s
    → IsCut es text ps r → IsCut es text qs s → AreSame ps qs r s
same_cut es text [] [] r s a b h k = record { pieces = refl; rests = sym h ∙ k }
same_cut es text [] (q ∷ qs) r s a b h k = absurd (a q (subst (λ (t : List ℕ). IsPieceAt es t q) h k.0))
same_cut es text (p ∷ ps) [] r s a b h k = absurd (b p (subst (λ (t : List ℕ). IsPieceAt es t p) k h.0))
same_cut es text (p ∷ ps) (q ∷ qs) r s a b h k =
    let first : p ≡ q = same_piece es text p q h.0 k.0 in
    let more : AreSame ps qs r s =
    same_cut es (drop (piece_size p) text) ps qs r s a b h.1
    (subst (λ (x : Piece). IsCut es (drop (piece_size x) text) qs s) (sym first) k.1) in
    record { pieces = ap₂ ◌∷◌ first more.pieces; rests = more.rests }

-- entries cut a whole text in one way at most
pub same_pieces : (es : List ScanEntry) (text : List ℕ) (ps qs : List Piece) → IsCut es text ps [] → IsCut es text qs [] → ps ≡ qs
same_pieces es text ps qs h k = (same_cut es text ps qs [] [] (end_is_ended es) (end_is_ended es) h k).pieces

-- a text has one list of tokens at most
pub same_tokens : (es : List ScanEntry) (text : List ℕ) (ts us : List Token) → AreTokensOf es text ts → AreTokensOf es text us
    → ts ≡ us
same_tokens es text ts us h k =
    h.tokens_are ∙ ap (λ (l : List Piece). tokens_from 0 (parts_of es text l)) (same_pieces es text h.pieces k.pieces h.cut k.cut)
    ∙ sym k.tokens_are

-- a text has one byte at most where it has no token
pub same_place : (es : List ScanEntry) (text : List ℕ) (m n : ℕ) → NoTokenAt es text m → NoTokenAt es text n → m ≡ n
same_place es text m n h k =
    let same : AreSame h.pieces k.pieces h.rest k.rest =
    same_cut es text h.pieces k.pieces h.rest k.rest (stuck_is_ended es h.rest h.stuck) (stuck_is_ended es k.rest k.stuck) h.cut
    k.cut in
    h.reaches ∙ ap (λ (l : List Piece). length (join_parts (parts_of es text l))) same.pieces ∙ sym k.reaches

-- a text doesn't have both tokens and a byte where it has none
pub never_both : (es : List ScanEntry) (text : List ℕ) (ts : List Token) (n : ℕ) → AreTokensOf es text ts → NoTokenAt es text n
    → ⊥
never_both es text ts n h k =
    let same : AreSame h.pieces k.pieces [] k.rest =
    same_cut es text h.pieces k.pieces [] k.rest (end_is_ended es) (stuck_is_ended es k.rest k.stuck) h.cut k.cut in
    let none : 0 ≡ length k.rest = ap length same.rests in
    let some : 0 < length k.rest = k.stuck.left in
    omega arith
