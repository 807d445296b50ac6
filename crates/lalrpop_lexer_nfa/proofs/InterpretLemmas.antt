-- The longest front that was found so far. For the run of an automaton over a text.
use Rattle.std.proofs.Common.{◌≡◌, ℕ, ◌+◌, ◌<◌, ◌≤◌, ◌↔◌, List, [], ◌∷◌, ◌++◌, length, take, Contains}
use Rattle.std.proofs.Common.{All, Option, Some, None, MatchOption, sym, ap, ◌∙◌, refl, subst, arith, length-append, vec_len}
use Rattle.std.proofs.Common.{⊎_elim, add-zero, inl, inr}
use Rattle.std.specs.Str.{chars}
use Rattle.std.proofs.lemmas.Bool.{cases_lt}
use Rattle.std.proofs.lemmas.List.{append_cancel_right, nil_from_length}
use Rattle.std.proofs.lemmas.Str.{chars-nil}
use denote.Ref.{Bor}
use Rattle.lalrpop_lexer_nfa.specs.declared.automaton.Nfa.{Nfa}
use Rattle.lalrpop_lexer_nfa.specs.declared.state_set.NfaStateSet.{NfaStateSet}
use Rattle.lalrpop_lexer_nfa.specs.declared.automaton.TheConstants.{ACCEPT, START}
use Rattle.lalrpop_lexer_nfa.specs.Paths.{nfa_view, Accepts}
use Rattle.lalrpop_lexer_nfa.specs.Sets.{IsReachedSet, Inserts}
use Rattle.lalrpop_lexer_nfa.proofs.ListLemmas.{Contains-nil}
use Rattle.lalrpop_lexer_nfa.specs.Fronts.{HasNoFront, IsLongestFront}
use Rattle.lalrpop_lexer_nfa.proofs.TextLemmas.{IsRead, read_text, read_take}
use Rattle.lalrpop_lexer_nfa.proofs.ArrivalLemmas.{leads_arrives}

-- the front is the longest that is accepted among those of at most n characters
pub record IsLongestUpTo (nfa : Nfa) (text front : List ℕ) (n : ℕ) : Type 0 where
  pub rest : List ℕ
  pub is : text ≡ front ++ rest
  pub accepted : Accepts nfa (chars front)
  pub longest : (m : ℕ) → length (chars front) < m → m ≤ n → Accepts nfa (take m (chars text)) → ⊥

abbrev pub Found : Nfa → List ℕ → ℕ → Option (Bor (List ℕ)) → Type 0
Found nfa text n found =
    MatchOption found ((m : ℕ) → m ≤ n → Accepts nfa (take m (chars text)) → ⊥) (λ front. IsLongestUpTo nfa text front.now n)

-- all characters were read
whole : (text rest word : List ℕ) → IsRead text rest word → length rest ≡ 0 → length (chars text) ≡ length word
whole text rest word read end =
    let none : chars rest ≡ [] = ap chars (nil_from_length rest end) ∙ chars-nil in
    ap length (read_text text rest word read) ∙ length-append word (chars rest) ∙ ap (λ xs. length word + length xs) none
    ∙ add-zero (length word)

-- where the word that was read is accepted, its text is the longest accepted front so far
pub found_here : (nfa : Nfa) (text rest word front : List ℕ) → IsRead text rest word → text ≡ front ++ rest → Accepts nfa word
    → IsLongestUpTo nfa text front (length word)
found_here nfa text rest word front read is accepted =
    let same : front ≡ read.front = append_cancel_right front read.front rest (sym is ∙ read.is) in
    let word_is : chars front ≡ word = ap chars same ∙ read.says in
    record {
      rest = rest;
      is = is;
      accepted = rw word_is accepted;
      longest = λ m more less h. let size = ap length word_is in omega arith;
    }

-- where the word that was read is not accepted, what was found before stays the longest
pub found_kept : (nfa : Nfa) (text rest word : List ℕ) (n : ℕ) (found : Option (Bor (List ℕ))) → IsRead text rest word
    → length word ≡ n + 1 → (Accepts nfa word → ⊥) → Found nfa text n found → Found nfa text (length word) found
found_kept nfa text rest word n None read more none h =
    λ m less accepts.
    ⊎_elim (λ (l : m < n + 1). h m (omega arith) accepts)
    (λ (g : n + 1 ≤ m).
    let P : List ℕ → Type 0 = Accepts nfa in
    let at : m ≡ length word = omega arith in
    none (subst P (ap (λ k. take k (chars text)) at ∙ read_take text rest word read) accepts))
    (cases_lt m (n + 1))
found_kept nfa text rest word n (Some front) read more none h = record {
  rest = h.rest;
  is = h.is;
  accepted = h.accepted;
  longest = λ m over less accepts.
      ⊎_elim (λ (l : m < n + 1). h.longest m over (omega arith) accepts)
      (λ (g : n + 1 ≤ m).
      let P : List ℕ → Type 0 = Accepts nfa in
      let at : m ≡ length word = omega arith in
      none (subst P (ap (λ k. take k (chars text)) at ∙ read_take text rest word read) accepts))
      (cases_lt m (n + 1));
}

-- where the empty word is not accepted, no front without characters is
pub found_nothing : (nfa : Nfa) (text : List ℕ) → (Accepts nfa [] → ⊥) → (m : ℕ) → m ≤ 0
    → Accepts nfa (take m (chars text)) → ⊥
found_nothing nfa text none m less accepts =
    let P : ℕ → Type 0 = λ k. Accepts nfa (take k (chars text)) in
    let Q : List ℕ → Type 0 = Accepts nfa in
    none (subst Q (none_taken (chars text)) (subst P (let e : m ≡ 0 = omega arith in e) accepts))
  where
    none_taken : (xs : List ℕ) → take 0 xs ≡ []
    none_taken [] = refl
    none_taken (x ∷ xs) = refl

-- at the end of the text
pub found_end : (nfa : Nfa) (text rest word : List ℕ) (found : Option (Bor (List ℕ))) → IsRead text rest word → length rest ≡ 0
    → Found nfa text (length word) found →
    MatchOption found (HasNoFront nfa text) (λ front. IsLongestFront nfa text front.now)
found_end nfa text rest word None read end h = λ m less. h m (omega (arith, less, whole text rest word read end))
found_end nfa text rest word (Some front) read end h = record {
  rest = h.rest;
  is = h.is;
  accepted = h.accepted;
  longest = λ m over less. h.longest m over (omega (arith, less, whole text rest word read end));
}

-- the accepting state among what a word leads to
pub accepts_from_set : (nfa : Nfa) (word set : List ℕ) → IsReachedSet (nfa_view nfa) START.0 word set → Contains set ACCEPT.0
    ↔ Accepts nfa word
accepts_from_set nfa word set is = (
  λ h. (leads_arrives (nfa_view nfa) START.0 word ACCEPT.0).1 ((is ACCEPT.0).0 h),
  λ h. (is ACCEPT.0).1 ((leads_arrives (nfa_view nfa) START.0 word ACCEPT.0).0 h),
)

-- after the characters of a word
pub record IsRunning (nfa : Nfa) (text rest word : List ℕ) (current next : NfaStateSet) (found : Option (Bor (List ℕ))) : Type 0 where
  pub read : IsRead text rest word
  pub set : IsReachedSet (nfa_view nfa) START.0 word current.members.items
  pub inside : All (λ q. q < vec_len nfa.states) current.members.items
  pub bound : vec_len current.places ≡ vec_len nfa.states
  pub next_bound : vec_len next.places ≡ vec_len nfa.states
  pub longest : Found nfa text (length word) found

-- one number put into an empty set
pub inserts_one : (old new : List ℕ) (x : ℕ) → old ≡ [] → Inserts old x new → new ≡ x ∷ []
inserts_one old new x none (inl h) = absurd (Contains-nil x (rw none at h.0))
inserts_one old new x none (inr h) = h.1 ∙ ap (λ xs. xs ++ x ∷ []) none
