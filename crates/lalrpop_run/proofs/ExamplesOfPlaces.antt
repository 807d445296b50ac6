-- Computed examples of places: where a text has no token, where its tokens are wrong, and where they end too early.
use Rattle.std.proofs.Common.{◌≡◌, ℕ, zero, suc, List, [], ◌∷◌, refl, ap, sym, ◌∙◌, subst, inl, inr, Bool, true, false}
use Rattle.std.proofs.Common.{arith, length, ◌<◌, ◌≤◌, ◌++◌}
use Rattle.std.proofs.lemmas.List.{map-append}
use Rattle.std.specs.Prelude.{codes, cond, drop, map, take}
use Rattle.std.specs.Str.{chars}
use Rattle.lalrpop_grammar_symbols.specs.Symbols.{Text, Terminal}
use Rattle.lalrpop_grammar.specs.Trees.{Token, Tree}
use Rattle.lalrpop_grammar_language.specs.Admitting.{AdmitsFrom}
use Rattle.lalrpop_grammar_language.specs.Among.{Among}
use Rattle.lalrpop_grammar_language.specs.Derivations.{leaf_token}
use Rattle.lalrpop_grammar_language.proofs.WrittenTreeLemmas.{finds, nd, yes}
use Rattle.lalrpop_lexer_pattern.specs.Matches.{Matches}
use Rattle.lalrpop_lexer_pattern.specs.Wins.{MatchesAt}
use Rattle.lalrpop_lexer_scan.specs.Entries.{ScanEntry, patterns, some_skips}
use Rattle.lalrpop_lexer_scan.specs.Pieces.{Piece, IsCut, IsPieceAt, piece_size}
use Rattle.lalrpop_norm_token_check.specs.Entries.{own_entry}
use Rattle.lalrpop_norm_token_check.specs.Patterns.{scan_entry}
use Rattle.lalrpop_run_theory.specs.TextAnswers.{TextAnswer, terminals_of_tokens}
use Rattle.lalrpop_run.specs.Asked.{WrittenAnswer}
use Rattle.lalrpop_run.specs.RightAnswer.{AreItsEntries, HasTokens, IsRightAnswerTo}
use Rattle.lalrpop_run.proofs.ExamplesOfPassFaults.{used_is, used_of_word}
use Rattle.lalrpop_run.proofs.ExamplesOfRightAnswers.{asked, asked_within}
use Rattle.lalrpop_run.proofs.ExamplesOfOneWord.{a, one_word, sentence_is_letter}
use Rattle.lalrpop_run.proofs.ExamplesOfStateCounts.{word_parsed}

abbrev entries_of : List Terminal → List ScanEntry
entries_of us = map scan_entry (map (own_entry 1) us)

-- so its entries match `a` alone
matches_a : (us : List Terminal) → ((u : Terminal) → Among us u → u ≡ a) → (e : ℕ) (w : List ℕ) →
    MatchesAt (patterns (entries_of us)) e w → w ≡ 97 ∷ []
unfolding chars
matches_a [] h e w k = absurd (omega (arith, k.0))
matches_a (u ∷ us) h zero w k = subst (λ z. Matches (scan_entry (own_entry 1 z)).pattern w) (h u (inl refl)) k.1
matches_a (u ∷ us) h (suc e) w k = matches_a us (λ v i. h v (inr i)) e w (omega (arith, k.0), k.1)

only_a : (entries : List ScanEntry) → AreItsEntries asked one_word entries → (e : ℕ) (w : List ℕ) →
    MatchesAt (patterns entries) e w → w ≡ 97 ∷ []
only_a entries h e w k =
    let listing = h.are_full.listed in
    let are : entries ≡ entries_of listing.used = h.entries_are ∙ ap (map scan_entry) listing.entries_are in
    matches_a listing.used (λ u i. used_is true u ((listing.are_used.each u).0 i)) e w
    (subst (λ z. MatchesAt (patterns z) e w) are k)

no_blanks : (b : Bool) → cond {A = ℕ} b 0 0 ≡ 0
no_blanks true = refl
no_blanks false = refl

module _ (entries : List ScanEntry) (only : (e : ℕ) (w : List ℕ) → MatchesAt (patterns entries) e w → w ≡ 97 ∷ []) where
  -- a piece at `a`, in front of others, is `a`
  piece_is : (c : ℕ) (cs : List ℕ) (p : Piece) → IsPieceAt entries (97 ∷ c ∷ cs) p → piece_size p ≡ 1
  piece_is c cs (Piece.blank k) h =
      let none : k ≡ 0 = h.1 ∙ no_blanks (some_skips entries) in
      absurd (omega (arith, none, h.0))
  piece_is c cs (Piece.taken k e) h = go k (only e (take k (97 ∷ c ∷ cs)) h.0.wins.0)
    where
      go : (k : ℕ) → take k (97 ∷ c ∷ cs) ≡ 97 ∷ [] → k ≡ 1
      go zero f = let wrong : ⊥ = cc in absurd wrong
      go (suc zero) f = refl
      go (suc (suc k)) f =
          let rest : c ∷ take k cs ≡ [] = cc in
          let wrong : ⊥ = cc in
          absurd wrong

  -- and at `?` there is none
  no_piece : (p : Piece) → IsPieceAt entries (63 ∷ []) p → ⊥
  no_piece (Piece.blank k) h =
      let none : k ≡ 0 = h.1 ∙ no_blanks (some_skips entries) in
      omega (arith, none, h.0)
  no_piece (Piece.taken k e) h = go k (only e (take {A = ℕ} k (63 ∷ [])) h.0.wins.0)
    where
      go : (k : ℕ) → take {A = ℕ} k (63 ∷ []) ≡ 97 ∷ [] → ⊥
      go zero f = let wrong : ⊥ = cc in wrong
      go (suc k) f = let same : ◌≡◌ {A = ℕ} 63 97 = cc in omega (arith, same)

  no_end : (ps : List Piece) → IsCut entries (63 ∷ []) ps [] → ⊥
  no_end [] h = let wrong : ⊥ = cc in wrong
  no_end (p ∷ ps) h = no_piece p h.0

  no_second : (ps : List Piece) → IsCut entries (97 ∷ 63 ∷ []) ps [] → ⊥
  no_second [] h = let wrong : ⊥ = cc in wrong
  no_second (p ∷ ps) h =
      no_end ps (subst (λ k. IsCut entries (drop {A = ℕ} k (97 ∷ 63 ∷ [])) ps []) (piece_is 63 [] p h.0) h.1)

  no_cut : (ps : List Piece) → IsCut entries (97 ∷ 97 ∷ 63 ∷ []) ps [] → ⊥
  no_cut [] h = let wrong : ⊥ = cc in wrong
  no_cut (p ∷ ps) h =
      no_second ps (subst (λ k. IsCut entries (drop {A = ℕ} k (97 ∷ 97 ∷ 63 ∷ [])) ps []) (piece_is 97 (63 ∷ []) p h.0) h.1)

-- `aa?` has no tokens, so its second `a` isn't told as wrong, nor its end as early, nor is there a tree
no_tokens : (tokens : List Token) → HasTokens asked one_word (97 ∷ 97 ∷ 63 ∷ []) tokens → ⊥
no_tokens tokens h = no_cut h.entries (only_a h.entries h.are_entries) h.cut.pieces h.cut.cut

pub wrong_token_before_no_token : (at : ℕ) (text : Text) →
    IsRightAnswerTo asked one_word (97 ∷ 97 ∷ 63 ∷ []) (WrittenAnswer.to_text (TextAnswer.wrong_token at text)) → ⊥
wrong_token_before_no_token at text (IsRightAnswerTo.stops tokens answer h s) = no_tokens tokens h

pub end_before_no_token : IsRightAnswerTo asked one_word (97 ∷ 97 ∷ 63 ∷ []) (WrittenAnswer.to_text TextAnswer.early_end) → ⊥
end_before_no_token (IsRightAnswerTo.stops tokens answer h s) = no_tokens tokens h

pub tree_before_no_token : (u : Tree) →
    IsRightAnswerTo asked one_word (97 ∷ 97 ∷ 63 ∷ []) (WrittenAnswer.to_text (TextAnswer.written u)) → ⊥
tree_before_no_token u (IsRightAnswerTo.sentence tokens v h s) = no_tokens tokens h
tree_before_no_token u (IsRightAnswerTo.stops tokens answer h s) = no_tokens tokens h

-- right places

-- it is cut by one entry
abbrev pub word_entries : List ScanEntry
word_entries = entries_of (a ∷ [])

pub are_word_entries : (limit : ℕ) → AreItsEntries (asked_within limit) one_word word_entries
are_word_entries limit = record {
  made = own_entry 1 a ∷ [];
  are_full = record {
    listed = record {
      used = a ∷ [];
      are_used = used_of_word true;
      entries_are = refl;
    };
    none_lacks = refl;
  };
  none_refused = refl;
  entries_are = refl;
  unambiguous = λ w e f h.
      let one : f < 1 = h.second.0 in
      omega (arith, h.apart, one);
}

-- which takes one letter
takes_a : (cs : List ℕ) → IsPieceAt word_entries (97 ∷ cs) (Piece.taken 1 0)
unfolding chars
takes_a cs = (
  record {
    nonempty = omega arith;
    within = omega arith;
    wins = ((omega arith, refl), λ f apart h. let one : f < 1 = h.0 in absurd (apart (omega (arith, one))));
    longest = λ m f more fits h. no_longer m cs more fits (matches_a (a ∷ []) same f (take m (97 ∷ cs)) h);
  },
  omega arith,
)
  where
    same : (u : Terminal) → Among (a ∷ []) u → u ≡ a
    same u (inl e) = sym e
    same u (inr i) = absurd i

    no_longer : (m : ℕ) (cs : List ℕ) → 1 < m → m ≤ length (97 ∷ cs) → take m (97 ∷ cs) ≡ 97 ∷ [] → ⊥
    no_longer zero cs more fits e = omega (arith, more)
    no_longer (suc zero) cs more fits e = omega (arith, more)
    no_longer (suc (suc k)) [] more fits e = omega (arith, fits)
    no_longer (suc (suc k)) (c ∷ cs) more fits e =
        let rest : c ∷ take k cs ≡ [] = cc in
        cc

-- `aa?`: it has no token at its third byte
pub no_token_told : IsRightAnswerTo asked one_word (97 ∷ 97 ∷ 63 ∷ []) (WrittenAnswer.to_text (TextAnswer.no_token 2))
unfolding lib.Utf8.encode
no_token_told = IsRightAnswerTo.no_token word_entries 2 (word_parsed 1000) (are_word_entries 1000) (record {
  pieces = Piece.taken 1 0 ∷ Piece.taken 1 0 ∷ [];
  rest = 63 ∷ [];
  cut = (takes_a (97 ∷ 63 ∷ []), (takes_a (63 ∷ []), refl));
  reaches = refl;
  stuck = record {
    left = omega arith;
    no_entry = λ m f some fits k. no_mark m some (matches_a (a ∷ []) same f (take {A = ℕ} m (63 ∷ [])) k);
    no_blank = refl;
  };
})
  where
    same : (u : Terminal) → Among (a ∷ []) u → u ≡ a
    same u (inl e) = sym e
    same u (inr i) = absurd i

    no_mark : (m : ℕ) → 0 < m → take {A = ℕ} m (63 ∷ []) ≡ 97 ∷ [] → ⊥
    no_mark zero some e = omega (arith, some)
    no_mark (suc m) some e = let letters : ◌≡◌ {A = ℕ} 63 97 = cc in omega (arith, letters)

abbrev pub token_at : ℕ → Token
token_at at = leaf_token a (at, suc at)

-- no letter has no tokens, `a` has one, and `aa` has two
nothing_cut : HasTokens asked one_word [] []
nothing_cut = record {
  parsed = word_parsed 1000;
  entries = word_entries;
  are_entries = are_word_entries 1000;
  cut = record { pieces = []; cut = refl; tokens_are = refl };
}

pub one_cut : (limit : ℕ) → HasTokens (asked_within limit) one_word (97 ∷ []) (token_at 0 ∷ [])
unfolding lib.Utf8.encode
one_cut limit = record {
  parsed = word_parsed limit;
  entries = word_entries;
  are_entries = are_word_entries limit;
  cut = record { pieces = Piece.taken 1 0 ∷ []; cut = (takes_a [], refl); tokens_are = refl };
}

two_cut : HasTokens asked one_word (97 ∷ 97 ∷ []) (token_at 0 ∷ token_at 1 ∷ [])
unfolding lib.Utf8.encode
two_cut = record {
  parsed = word_parsed 1000;
  entries = word_entries;
  are_entries = are_word_entries 1000;
  cut = record { pieces = Piece.taken 1 0 ∷ Piece.taken 1 0 ∷ []; cut = (takes_a (97 ∷ []), (takes_a [], refl)); tokens_are = refl };
}

-- `a` is a sentence
pub letter_admitted : AdmitsFrom finds [] one_word (codes "S") (nd "S" 0 (Tree.terminal (token_at 0) ∷ [])) (token_at 0 ∷ [])
letter_admitted = yes [] one_word "S" (nd "S" 0 (Tree.terminal (token_at 0) ∷ [])) refl

-- an empty text ends too early
pub end_told : IsRightAnswerTo asked one_word [] (WrittenAnswer.to_text TextAnswer.early_end)
end_told = IsRightAnswerTo.stops [] TextAnswer.early_end nothing_cut (
  ([], token_at 0 ∷ [], refl, (_, letter_admitted)),
  λ s.
      let lengths : ◌≡◌ {A = ℕ} 0 1 = ap length (sentence_is_letter [] s) in
      omega (arith, lengths),
)

-- and the second letter of `aa` is wrong
pub wrong_token_told : IsRightAnswerTo asked one_word (97 ∷ 97 ∷ []) (WrittenAnswer.to_text (TextAnswer.wrong_token 1 (codes "a")))
wrong_token_told = IsRightAnswerTo.stops (token_at 0 ∷ token_at 1 ∷ []) (TextAnswer.wrong_token 1 (codes "a")) two_cut (record {
  number = 1;
  token = token_at 1;
  there = refl;
  at_is = refl;
  text_is = refl;
  begins = (token_at 0 ∷ [], [], refl, (_, letter_admitted));
  begins_no_more = λ b.
      let all : terminals_of_tokens (b.0 ++ b.1) ≡ a ∷ [] = sentence_is_letter (b.0 ++ b.1) b.3 in
      let parts : a ∷ a ∷ terminals_of_tokens b.1 ≡ a ∷ [] =
      ap (λ z. z ++ terminals_of_tokens b.1) (sym b.2) ∙ sym (map-append (λ (k : Token). k.terminal) b.0 b.1) ∙ all in
      let lengths : suc (suc (length (terminals_of_tokens b.1))) ≡ 1 = ap length parts in
      omega (arith, lengths);
})
