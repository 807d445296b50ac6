-- Two right answers to one text are one, but for the limit: for the laws that a greater limit changes no other answer, and of both ways.
use Rattle.std.proofs.Common.{◌≡◌, ◌∙◌, ◌<◌, ◌≤◌, ◌⊎◌, inl, inr, ℕ, suc, List, [], ◌++◌}
use Rattle.std.proofs.Common.{refl, ap, sym, subst, arith}
use Rattle.std.proofs.Common.{append_assoc, append-nil, drop, take}
use Rattle.std.specs.Prelude.{Bool, Option, Some, slice_get}
use Rattle.std.proofs.lemmas.Bool.{cases_lt}
use Rattle.std.proofs.lemmas.List.{take-append-drop, take-map, take-take}
use Rattle.lalrpop_grammar_symbols.specs.Symbols.{Text, Terminal}
use Rattle.lalrpop_grammar.specs.Trees.{Token, Tree}
use Rattle.lalrpop_grammar.specs.WrittenGrammar.{Grammar}
use Rattle.lalrpop_grammar_language.specs.Admitting.{AdmitsFrom}
use Rattle.lalrpop_grammar_language.specs.Sentences.{Begins, IsSentence}
use Rattle.lalrpop_lexer_scan.specs.Entries.{ScanEntry}
use Rattle.lalrpop_lexer_scan.specs.Tokens.{AreTokensOf}
use Rattle.lalrpop_lexer_scan.proofs.CutLemmas.{never_both, same_place, same_tokens}
use Rattle.lalrpop_run_theory.specs.TextAnswers.{IsFirstWrong, IsRightForText, IsRightForTokens, TextAnswer, terminals_of_tokens}

module _ (finds : Text → Text → Option Bool) (features : List Text) (w : Grammar) (start : Text) where
  abbrev Starts : List Terminal → Type 0
  Starts u = Begins finds features w start u

  -- what is shorter begins a sentence too
  begins_shorter : (u : List Terminal) (n : ℕ) → Starts u → Starts (take n u)
  begins_shorter u n b = (
    take n b.0,
    drop n b.0 ++ b.1,
    sym (take-map (λ (k : Token). k.terminal) n b.0) ∙ ap (take n) b.2,
    subst (IsSentence finds features w start)
        (ap (λ l. l ++ b.1) (sym (take-append-drop n b.0)) ∙ append_assoc (take n b.0) (drop n b.0) b.1) b.3,
  )

  -- and so do a sentence's own tokens
  sentence_begins : (tokens : List Token) (n : ℕ) → IsSentence finds features w start tokens →
      Starts (take n (terminals_of_tokens tokens))
  sentence_begins tokens n s =
      begins_shorter (terminals_of_tokens tokens) n
      (tokens, [], refl, subst (IsSentence finds features w start) (sym (append-nil tokens)) s)

  -- of two first wrong tokens neither comes earlier
  not_earlier : (tokens : List Token) (at at' : ℕ) (text text' : Text) (a : IsFirstWrong finds features w start tokens at text)
      (b : IsFirstWrong finds features w start tokens at' text') → a.number < b.number → ⊥
  not_earlier tokens at at' text text' a b h =
      let all = terminals_of_tokens tokens in
      let shorter : take (suc a.number) (take b.number all) ≡ take (suc a.number) all =
      take-take (suc a.number) b.number all (omega (arith, h)) in
      a.begins_no_more (subst Starts shorter (begins_shorter (take b.number all) (suc a.number) b.begins))

  one_place : (tokens : List Token) (at at' : ℕ) (text text' : Text) (a : IsFirstWrong finds features w start tokens at text)
      (b : IsFirstWrong finds features w start tokens at' text') → a.number ≡ b.number
  one_place tokens at at' text text' a b = go (cases_lt a.number b.number) (cases_lt b.number a.number)
    where
      go : (a.number < b.number) ⊎ (b.number ≤ a.number) → (b.number < a.number) ⊎ (a.number ≤ b.number) → a.number ≡ b.number
      go (inl h) k = absurd (not_earlier tokens at at' text text' a b h)
      go (inr h) (inl k) = absurd (not_earlier tokens at' at text' text b a k)
      go (inr h) (inr k) = omega (arith, h, k)

  same_wrong : (tokens : List Token) (at at' : ℕ) (text text' : Text) → IsFirstWrong finds features w start tokens at text →
      IsFirstWrong finds features w start tokens at' text' → TextAnswer.wrong_token at text ≡ TextAnswer.wrong_token at' text'
  same_wrong tokens at at' text text' a b =
      let there : ◌≡◌ {A = Option Token} (Some a.token) (Some b.token) =
      sym a.there ∙ ap (slice_get tokens) (one_place tokens at at' text text' a b) ∙ b.there in
      let same : a.token ≡ b.token = cc in
      let places : at ≡ at' = a.at_is ∙ ap (λ (k : Token). k.span.0) same ∙ sym b.at_is in
      let texts : text ≡ text' = a.text_is ∙ ap (λ (k : Token). k.text) same ∙ sym b.text_is in
      cc

  module _ (one_each : (t u : Tree) (tokens : List Token) → AdmitsFrom finds features w start t tokens →
      AdmitsFrom finds features w start u tokens → t ≡ u) (limit greater : ℕ) where
    same_for_tokens : (tokens : List Token) (a b : TextAnswer) → IsRightForTokens finds features w start tokens limit a →
        IsRightForTokens finds features w start tokens greater b → (a ≡ TextAnswer.over_limit → ⊥) →
        (b ≡ TextAnswer.over_limit → ⊥) → a ≡ b
    same_for_tokens tokens (TextAnswer.no_token at) b r s n m = absurd r
    same_for_tokens tokens TextAnswer.over_limit b r s n m = absurd (n refl)
    same_for_tokens tokens (TextAnswer.written t) (TextAnswer.no_token at) r s n m = absurd s
    same_for_tokens tokens (TextAnswer.written t) TextAnswer.over_limit r s n m = absurd (m refl)
    same_for_tokens tokens (TextAnswer.written t) (TextAnswer.written u) r s n m =
        ap TextAnswer.written (one_each t u tokens r.admitted s.admitted)
    same_for_tokens tokens (TextAnswer.written t) (TextAnswer.wrong_token at text) r s n m =
        absurd (s.begins_no_more (sentence_begins tokens (suc s.number) (t, r.admitted)))
    same_for_tokens tokens (TextAnswer.written t) TextAnswer.early_end r s n m = absurd (s.1 (t, r.admitted))
    same_for_tokens tokens (TextAnswer.wrong_token at text) (TextAnswer.no_token at') r s n m = absurd s
    same_for_tokens tokens (TextAnswer.wrong_token at text) TextAnswer.over_limit r s n m = absurd (m refl)
    same_for_tokens tokens (TextAnswer.wrong_token at text) (TextAnswer.written u) r s n m =
        absurd (r.begins_no_more (sentence_begins tokens (suc r.number) (u, s.admitted)))
    same_for_tokens tokens (TextAnswer.wrong_token at text) (TextAnswer.wrong_token at' text') r s n m =
        same_wrong tokens at at' text text' r s
    same_for_tokens tokens (TextAnswer.wrong_token at text) TextAnswer.early_end r s n m =
        absurd (r.begins_no_more (begins_shorter (terminals_of_tokens tokens) (suc r.number) s.0))
    same_for_tokens tokens TextAnswer.early_end (TextAnswer.no_token at) r s n m = absurd s
    same_for_tokens tokens TextAnswer.early_end TextAnswer.over_limit r s n m = absurd (m refl)
    same_for_tokens tokens TextAnswer.early_end (TextAnswer.written u) r s n m = absurd (r.1 (u, s.admitted))
    same_for_tokens tokens TextAnswer.early_end (TextAnswer.wrong_token at text) r s n m =
        absurd (s.begins_no_more (begins_shorter (terminals_of_tokens tokens) (suc s.number) r.0))
    same_for_tokens tokens TextAnswer.early_end TextAnswer.early_end r s n m = refl

    module _ (entries : List ScanEntry) (text : List ℕ) where
      pub same_for_text : (a b : TextAnswer) → IsRightForText finds features w start entries text limit a →
          IsRightForText finds features w start entries text greater b → (a ≡ TextAnswer.over_limit → ⊥) →
          (b ≡ TextAnswer.over_limit → ⊥) → a ≡ b
      same_for_text a b (IsRightForText.stops at h) (IsRightForText.stops at' k) n m =
          ap TextAnswer.no_token (same_place entries text at at' h k)
      same_for_text a b (IsRightForText.stops at h) (IsRightForText.reads tokens c k s) n m =
          absurd (never_both entries text tokens at k h)
      same_for_text a b (IsRightForText.reads tokens c h r) (IsRightForText.stops at k) n m =
          absurd (never_both entries text tokens at h k)
      same_for_text a b (IsRightForText.reads tokens c h r) (IsRightForText.reads tokens' d k s) n m =
          same_for_tokens tokens a b r
          (subst (λ ts. IsRightForTokens finds features w start ts greater b) (same_tokens entries text tokens' tokens k h) s) n m

  module _ (one_each : (t u : Tree) (tokens : List Token) → AdmitsFrom finds features w start t tokens →
      AdmitsFrom finds features w start u tokens → t ≡ u) (limit : ℕ) where
    abbrev IsRight : List Token → TextAnswer → Type 0
    IsRight tokens a = IsRightForTokens finds features w start tokens limit a

    is_limit : (a : TextAnswer) → (a ≡ TextAnswer.over_limit) ⊎ (a ≡ TextAnswer.over_limit → ⊥)
    is_limit TextAnswer.over_limit = inl refl
    is_limit (TextAnswer.no_token at) = inr (λ e. let z : ⊥ = cc in z)
    is_limit (TextAnswer.written t) = inr (λ e. let z : ⊥ = cc in z)
    is_limit (TextAnswer.wrong_token at text) = inr (λ e. let z : ⊥ = cc in z)
    is_limit TextAnswer.early_end = inr (λ e. let z : ⊥ = cc in z)

    -- where the limit is right, and another answer is, too, the tokens are no sentence
    no_sentence_beside : (tokens : List Token) (b : TextAnswer) → IsRight tokens TextAnswer.over_limit → IsRight tokens b →
        (b ≡ TextAnswer.over_limit → ⊥) → IsSentence finds features w start tokens → ⊥
    no_sentence_beside tokens (TextAnswer.no_token at) r s m sentence = s
    no_sentence_beside tokens TextAnswer.over_limit r s m sentence = m refl
    no_sentence_beside tokens (TextAnswer.written t) r s m sentence =
        let large = r.large t s.expanded s.is_expanded in
        let small = s.small in
        omega (arith, large, small)
    no_sentence_beside tokens (TextAnswer.wrong_token at text) r s m sentence =
        s.begins_no_more (sentence_begins tokens (suc s.number) sentence)
    no_sentence_beside tokens TextAnswer.early_end r s m sentence = s.1 sentence

    abbrev Agree : (Type 0) → TextAnswer → TextAnswer → Type 0
    Agree None_is a b = (a ≡ b) ⊎ (None_is × ((a ≡ TextAnswer.over_limit) ⊎ (b ≡ TextAnswer.over_limit)))

    agree_for_tokens : (tokens : List Token) (a b : TextAnswer) → IsRight tokens a → IsRight tokens b →
        Agree (IsSentence finds features w start tokens → ⊥) a b
    agree_for_tokens tokens a b r s = go (is_limit a) (is_limit b)
      where
        go : (a ≡ TextAnswer.over_limit) ⊎ (a ≡ TextAnswer.over_limit → ⊥) → (b ≡ TextAnswer.over_limit) ⊎ (b ≡ TextAnswer.over_limit → ⊥)
            → Agree (IsSentence finds features w start tokens → ⊥) a b
        go (inl e) (inl f) = inl (e ∙ sym f)
        go (inl e) (inr m) = inr (no_sentence_beside tokens b (subst (IsRight tokens) e r) s m, inl e)
        go (inr n) (inl f) = inr (no_sentence_beside tokens a (subst (IsRight tokens) f s) r n, inr f)
        go (inr n) (inr m) = inl (same_for_tokens one_each limit limit tokens a b r s n m)

    -- two right answers to a text under one limit are one; or its tokens are no sentence, and one of the two is the limit
    pub agree_for_text : (entries : List ScanEntry) (text : List ℕ) (a b : TextAnswer) →
        IsRightForText finds features w start entries text limit a → IsRightForText finds features w start entries text limit b →
        Agree ((tokens : List Token) → AreTokensOf entries text tokens → IsSentence finds features w start tokens → ⊥) a b
    agree_for_text entries text a b (IsRightForText.stops at h) (IsRightForText.stops at' k) =
        inl (ap TextAnswer.no_token (same_place entries text at at' h k))
    agree_for_text entries text a b (IsRightForText.stops at h) (IsRightForText.reads tokens c k s) =
        absurd (never_both entries text tokens at k h)
    agree_for_text entries text a b (IsRightForText.reads tokens c h r) (IsRightForText.stops at k) =
        absurd (never_both entries text tokens at h k)
    agree_for_text entries text a b (IsRightForText.reads tokens c h r) (IsRightForText.reads tokens' d k s) =
        by (agree_for_tokens tokens a b r (subst (λ ts. IsRight ts b) (same_tokens entries text tokens' tokens k h) s))
      where
        by : Agree (IsSentence finds features w start tokens → ⊥) a b
            → Agree ((us : List Token) → AreTokensOf entries text us → IsSentence finds features w start us → ⊥) a b
        by (inl e) = inl e
        by (inr n) = inr (λ us cut sentence. n.0 (subst (IsSentence finds features w start) (same_tokens entries text us tokens cut h) sentence), n.1)
