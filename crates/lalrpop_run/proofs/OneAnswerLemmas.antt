-- A text has one right answer, but that the limit may be told in place of a wrong token or of the end.
use Rattle.std.proofs.Common.{◌≡◌, ℕ, zero, suc, ◌<◌, ◌≤◌, List, [], ◌∷◌, ◌++◌, refl, ap, sym, ◌∙◌, subst, inl, inr, ◌⊎◌, arith}
use Rattle.std.proofs.Common.{Some, take, drop}
use Rattle.std.proofs.lemmas.Bool.{cases_lt}
use Rattle.std.proofs.lemmas.List.{append_assoc, append-nil, take-append-drop, take-map}
use Rattle.std.specs.Prelude.{map, slice_get}
use Rattle.lalrpop_grammar_symbols.specs.Symbols.{Terminal, Text}
use Rattle.lalrpop_grammar.specs.Trees.{Token, Tree}
use Rattle.lalrpop_grammar.specs.WrittenGrammar.{Grammar}
use Rattle.lalrpop_grammar_language.specs.Sentences.{Begins, IsSentence}
use Rattle.lalrpop_lexer_scan.specs.Entries.{ScanEntry}
use Rattle.lalrpop_lexer_scan.specs.Tokens.{AreTokensOf, NoTokenAt}
use Rattle.lalrpop_lexer_scan.proofs.CutLemmas.{never_both, same_place, same_tokens}
use Rattle.lalrpop_norm_chain.proofs.TokenFaultLemmas.{one_list}
use Rattle.lalrpop_norm_token_check.specs.Blocks.{block_groups}
use Rattle.lalrpop_norm_token_check.specs.Entries.{tokenizer_entries}
use Rattle.lalrpop_norm_token_check.specs.Patterns.{scan_entry}
use Rattle.lalrpop_run_theory.specs.TextAnswers.{IsFirstWrong, IsTreeWithin, TextAnswer, terminals_of_tokens}
use Rattle.lalrpop_run.specs.Asked.{Asked, WrittenAnswer, enabled}
use Rattle.lalrpop_run.specs.OneAnswer.{AreOneAnswer, ConflictsGiveNoAnswer, TextAnswersAreOne}
use Rattle.lalrpop_run.specs.RightAnswer.{AreItsEntries, HasTokens, IsRightAnswerTo, MayBeParsed, StopsAtTokens}
use Rattle.lalrpop_run.proofs.ExpansionAlikeLemmas.{lr1_is_said_of_all}

take_within : (n m : ℕ) (xs : List Terminal) → n ≤ m → take n (take m xs) ≡ take n xs
take_within zero m xs h = refl
take_within (suc n) zero xs h = absurd (omega (arith, h))
take_within (suc n) (suc m) [] h = refl
take_within (suc n) (suc m) (x ∷ xs) h = ap (λ z. x ∷ z) (take_within n m xs (omega (arith, h)))

module _ (q : Asked) (w : Grammar) where
  -- there is one list of entries
  entries_are_one : (es fs : List ScanEntry) → AreItsEntries q w es → AreItsEntries q w fs → es ≡ fs
  entries_are_one es fs h k =
      let used = one_list (enabled q w) h.are_full.listed.used k.are_full.listed.used h.are_full.listed.are_used
      k.are_full.listed.are_used in
      let made : h.made ≡ k.made =
      h.are_full.listed.entries_are ∙ ap (tokenizer_entries (block_groups w.items)) used ∙ sym k.are_full.listed.entries_are in
      h.entries_are ∙ ap (map scan_entry) made ∙ sym k.entries_are

  module _ (text : List ℕ) where
    places_are_one : (es fs : List ScanEntry) (m n : ℕ) → AreItsEntries q w es → AreItsEntries q w fs → NoTokenAt es text m →
        NoTokenAt fs text n → m ≡ n
    places_are_one es fs m n a b h k =
        same_place es text m n h (subst (λ z. NoTokenAt z text n) (entries_are_one fs es b a) k)

    tokens_are_one : (ts us : List Token) → HasTokens q w text ts → HasTokens q w text us → ts ≡ us
    tokens_are_one ts us h k =
        same_tokens h.entries text ts us h.cut
        (subst (λ z. AreTokensOf z text us) (entries_are_one k.entries h.entries k.are_entries h.are_entries) k.cut)

    no_tokens_there : (ts : List Token) (es : List ScanEntry) (at : ℕ) → HasTokens q w text ts → AreItsEntries q w es →
        NoTokenAt es text at → ⊥
    no_tokens_there ts es at h a k =
        never_both h.entries text ts at h.cut (subst (λ z. NoTokenAt z text at) (entries_are_one es h.entries a h.are_entries) k)

  abbrev IsBegun : List Terminal → Type 0
  IsBegun u = Begins q.finds q.features w q.start u

  abbrev IsWhole : List Token → Type 0
  IsWhole tokens = IsSentence q.finds q.features w q.start tokens

  -- what begins a sentence, has fronts that do
  front_begins : (k : ℕ) (u : List Terminal) → IsBegun u → IsBegun (take k u)
  front_begins k u b = (
    take k b.0,
    drop k b.0 ++ b.1,
    sym (take-map (λ (t : Token). t.terminal) k b.0) ∙ ap (take k) b.2,
    subst IsWhole (ap (λ z. z ++ b.1) (sym (take-append-drop k b.0)) ∙ append_assoc (take k b.0) (drop k b.0) b.1) b.3,
  )

  sentence_begins : (tokens : List Token) → IsWhole tokens → IsBegun (terminals_of_tokens tokens)
  sentence_begins tokens s = (tokens, [], refl, subst IsWhole (sym (append-nil tokens)) s)

  module _ (tokens : List Token) where
    abbrev IsWrong : ℕ → Text → Type 0
    IsWrong at word = IsFirstWrong q.finds q.features w q.start tokens at word

    not_begun : (at : ℕ) (word : Text) → IsWrong at word → IsBegun (terminals_of_tokens tokens) → ⊥
    not_begun at word h b = h.begins_no_more (front_begins (suc h.number) (terminals_of_tokens tokens) b)

    not_later : (i j : ℕ) → i < j → IsBegun (take j (terminals_of_tokens tokens)) →
        (IsBegun (take (suc i) (terminals_of_tokens tokens)) → ⊥) → ⊥
    not_later i j l b none =
        none (subst IsBegun (take_within (suc i) j (terminals_of_tokens tokens) (omega (arith, l)))
        (front_begins (suc i) (take j (terminals_of_tokens tokens)) b))

    -- there is one first wrong token
    wrong_is_one : (at other : ℕ) (word more : Text) → IsWrong at word → IsWrong other more →
        TextAnswer.wrong_token at word ≡ TextAnswer.wrong_token other more
    wrong_is_one at other word more h k = go (cases_lt h.number k.number) (cases_lt k.number h.number)
      where
        go : (h.number < k.number) ⊎ (k.number ≤ h.number) → (k.number < h.number) ⊎ (h.number ≤ k.number) →
            TextAnswer.wrong_token at word ≡ TextAnswer.wrong_token other more
        go (inl l) c = absurd (not_later h.number k.number l k.begins h.begins_no_more)
        go (inr l) (inl m) = absurd (not_later k.number h.number m h.begins k.begins_no_more)
        go (inr l) (inr m) =
            let number : h.number ≡ k.number = omega (arith, l, m) in
            let both : Some h.token ≡ Some k.token = sym h.there ∙ ap (slice_get tokens) number ∙ k.there in
            let same : h.token ≡ k.token = cc in
            let places : at ≡ other = h.at_is ∙ ap (λ (t : Token). t.span.0) same ∙ sym k.at_is in
            let words : word ≡ more = h.text_is ∙ ap (λ (t : Token). t.text) same ∙ sym k.text_is in
            ap (λ z. TextAnswer.wrong_token z word) places ∙ ap (TextAnswer.wrong_token other) words

    stops_are_one : (a b : TextAnswer) → StopsAtTokens q w tokens a → StopsAtTokens q w tokens b → AreOneAnswer a b
    stops_are_one (TextAnswer.no_token at) b h k = absurd h
    stops_are_one (TextAnswer.written t) b h k = absurd h
    stops_are_one a (TextAnswer.no_token at) h k = absurd k
    stops_are_one a (TextAnswer.written t) h k = absurd k
    stops_are_one (TextAnswer.wrong_token at word) (TextAnswer.wrong_token other more) h k =
        inl (wrong_is_one at other word more h k)
    stops_are_one (TextAnswer.wrong_token at word) TextAnswer.early_end h k = absurd (not_begun at word h k.0)
    stops_are_one (TextAnswer.wrong_token at word) TextAnswer.over_limit h k = inr (inr (refl, tt))
    stops_are_one TextAnswer.early_end (TextAnswer.wrong_token at word) h k = absurd (not_begun at word k h.0)
    stops_are_one TextAnswer.early_end TextAnswer.early_end h k = inl refl
    stops_are_one TextAnswer.early_end TextAnswer.over_limit h k = inr (inr (refl, tt))
    stops_are_one TextAnswer.over_limit (TextAnswer.wrong_token at word) h k = inr (inl (refl, tt))
    stops_are_one TextAnswer.over_limit TextAnswer.early_end h k = inr (inl (refl, tt))
    stops_are_one TextAnswer.over_limit TextAnswer.over_limit h k = inl refl

    -- tokens with a tree within the limit don't stop
    no_stop : (t : Tree) (a : TextAnswer) → IsTreeWithin q.finds q.features w q.start tokens q.limit t → StopsAtTokens q w tokens a → ⊥
    no_stop t (TextAnswer.no_token at) h k = k
    no_stop t (TextAnswer.written u) h k = k
    no_stop t (TextAnswer.wrong_token at word) h k = not_begun at word k (sentence_begins tokens (t, h.admitted))
    no_stop t TextAnswer.early_end h k = k.1 (t, h.admitted)
    no_stop t TextAnswer.over_limit h k =
        let more = k.large t h.expanded h.is_expanded in
        omega (arith, more, h.small)

-- a text has one right answer
pub text_answers_are_one : TextAnswersAreOne
text_answers_are_one q w text a b (IsRightAnswerTo.no_token es m p are h) (IsRightAnswerTo.no_token fs n r is k) =
    inl (ap TextAnswer.no_token (places_are_one q w text es fs m n are is h k))
text_answers_are_one q w text a b (IsRightAnswerTo.no_token es m p are h) (IsRightAnswerTo.sentence ts t has within) =
    absurd (no_tokens_there q w text ts es m has are h)
text_answers_are_one q w text a b (IsRightAnswerTo.no_token es m p are h) (IsRightAnswerTo.stops ts given has stop) =
    absurd (no_tokens_there q w text ts es m has are h)
text_answers_are_one q w text a b (IsRightAnswerTo.sentence ts t has within) (IsRightAnswerTo.no_token es m p are h) =
    absurd (no_tokens_there q w text ts es m has are h)
text_answers_are_one q w text a b (IsRightAnswerTo.sentence ts t has within) (IsRightAnswerTo.sentence us u own other) =
    let same = tokens_are_one q w text us ts own has in
    let admitted = subst (λ z. IsTreeWithin q.finds q.features w q.start z q.limit u) same other in
    inl (ap TextAnswer.written (has.parsed.unambiguous t u ts within.admitted admitted.admitted))
text_answers_are_one q w text a b (IsRightAnswerTo.sentence ts t has within) (IsRightAnswerTo.stops us given own stop) =
    absurd (no_stop q w ts t given within (subst (λ z. StopsAtTokens q w z given) (tokens_are_one q w text us ts own has) stop))
text_answers_are_one q w text a b (IsRightAnswerTo.stops ts given has stop) (IsRightAnswerTo.no_token es m p are h) =
    absurd (no_tokens_there q w text ts es m has are h)
text_answers_are_one q w text a b (IsRightAnswerTo.stops ts given has stop) (IsRightAnswerTo.sentence us u own within) =
    absurd (no_stop q w us u given within (subst (λ z. StopsAtTokens q w z given) (tokens_are_one q w text ts us has own) stop))
text_answers_are_one q w text a b (IsRightAnswerTo.stops ts given has stop) (IsRightAnswerTo.stops us answer own other) =
    stops_are_one q w ts given answer stop
    (subst (λ z. StopsAtTokens q w z answer) (tokens_are_one q w text us ts own has) other)

-- an answer to a text is right only where the grammar may be parsed
pub parsed_where_answered : (q : Asked) (w : Grammar) (text : List ℕ) (answer : TextAnswer) →
    IsRightAnswerTo q w text (WrittenAnswer.to_text answer) → MayBeParsed q w
parsed_where_answered q w text answer (IsRightAnswerTo.no_token es at parsed are first) = parsed
parsed_where_answered q w text answer (IsRightAnswerTo.sentence ts t has within) = has.parsed
parsed_where_answered q w text answer (IsRightAnswerTo.stops ts given has stop) = has.parsed

-- so none is where conflicts are right
pub conflicts_give_no_answer : ConflictsGiveNoAnswer
conflicts_give_no_answer q w text other told a i (IsRightAnswerTo.conflicts all h) k =
    let p = parsed_where_answered q w other a k in
    h.no_lr1 (lr1_is_said_of_all q.finds q.features w q.start p.grammar h.grammar i p.expansion h.productions.expansion p.lr1)
