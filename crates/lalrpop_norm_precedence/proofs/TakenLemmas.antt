-- A text that is taken once more in a map; for the texts that names have taken.
use Rattle.std.proofs.Common.{◌≡◌, ℕ, suc, ◌+◌, ◌<◌, ◌^◌, Bool, true, false, cond, List, [], ◌∷◌}
use Rattle.std.proofs.Common.{refl, ap, sym, ◌∙◌, subst}
use Rattle.std.proofs.Common.{Some, length, filter, arith}
use Rattle.std.specs.Option.{unwrap_or}
use Rattle.std.specs.Ordering.{nat_cmp}
use Rattle.std.specs.Cmp.Lexicographic.{slice_cmp}
use Rattle.std.specs.Map.{lookup}
use Rattle.std.specs.Str.{bytes_eq}
use Rattle.std.specs.BTreeMap.{BTreeMap, get, is_at, UpdatesBy}
use Rattle.std.proofs.lemmas.Map.Text.{is_eq-slice_cmp}
use Rattle.lalrpop_grammar_symbols.specs.Symbols.{Text}
use Rattle.lalrpop_grammar_language.proofs.PlaceLemmas.{same_text-eq}
use Rattle.lalrpop_grammar_rules.proofs.BareNameLemmas.{same_text-sym}
use Rattle.lalrpop_norm_theory.specs.LevelNames.{times_taken}
use Rattle.lalrpop_norm_precedence.specs.TakenTimes.{AreSmallTimes, times_in}
use Rattle.lalrpop_norm_precedence.specs.GivenNames.{Times, once_more}

-- times that are the same for each text are the same
pub same_times : (a b : Times) → ((t : Text) → a t ≡ b t) → a ≡ b
same_times a b h = λ i t. h t i

-- a map without entries
pub none_taken : (m : BTreeMap Text ℕ) → m.entries ≡ [] → times_in m ≡ (λ t. 0)
none_taken m e = same_times (times_in m) (λ t. 0) (λ t. ap (λ es. unwrap_or (lookup (is_at (slice_cmp nat_cmp t)) es) 0) e)

-- the same entries
pub still_taken : (m n : BTreeMap Text ℕ) → n.entries ≡ m.entries → times_in n ≡ times_in m
still_taken m n e =
    same_times (times_in n) (times_in m) (λ t. ap (λ es. unwrap_or (lookup (is_at (slice_cmp nat_cmp t)) es) 0) e)

module _ (old new : BTreeMap Text ℕ) (key text : Text) (n : ℕ) where
  -- the key is the text
  at_text : key ≡ text → (t : Text) → is_at (slice_cmp nat_cmp key) t ≡ bytes_eq t text
  at_text same t = is_eq-slice_cmp key t ∙ same_text-sym key t ∙ ap (bytes_eq t) same

  one_text : key ≡ text → n ≡ suc (times_in old text) → (t : Text) (b c : Bool) → b ≡ c → bytes_eq t text ≡ c →
      unwrap_or (cond b (Some n) (get (slice_cmp nat_cmp) old t)) 0 ≡ cond c (suc (times_in old t)) (times_in old t)
  one_text same is t true true e f = is ∙ ap (λ u. suc (times_in old u)) (sym (same_text-eq t text f))
  one_text same is t true false e f = cc
  one_text same is t false true e f = cc
  one_text same is t false false e f = refl

  -- the text has one more, the others stay
  pub taken_once : key ≡ text → n ≡ suc (times_in old text) →
      UpdatesBy (slice_cmp nat_cmp) (slice_cmp nat_cmp key) old new (Some n) →
      times_in new ≡ once_more text (times_in old)
  taken_once same is updates =
      same_times (times_in new) (once_more text (times_in old)) (λ t.
      ap (λ o. unwrap_or o 0) (updates.0 t)
      ∙ one_text same is t (is_at (slice_cmp nat_cmp key) t) (bytes_eq t text) (at_text same t) refl)

  small_at : n < 2 ^ 64 → AreSmallTimes (times_in old) → (t : Text) (b : Bool) →
      unwrap_or (cond b (Some n) (get (slice_cmp nat_cmp) old t)) 0 < 2 ^ 64
  small_at lt small t true = lt
  small_at lt small t false = small t

  -- and there is room
  pub still_small : n < 2 ^ 64 → AreSmallTimes (times_in old) →
      UpdatesBy (slice_cmp nat_cmp) (slice_cmp nat_cmp key) old new (Some n) → AreSmallTimes (times_in new)
  still_small lt small updates t =
      subst (λ o. unwrap_or o 0 < 2 ^ 64) (sym (updates.0 t)) (small_at lt small t (is_at (slice_cmp nat_cmp key) t))

-- names one after the other

more_taken : (text n : Text) (ns : List Text) (b : Bool) →
    length (cond b (n ∷ filter (bytes_eq text) ns) (filter (bytes_eq text) ns))
    ≡ cond b (suc (times_taken text ns)) (times_taken text ns)
more_taken text n ns true = refl
more_taken text n ns false = refl

-- one name more is one time more
pub taken_more : (text n : Text) (ns : List Text) → times_taken text (n ∷ ns) ≡ once_more n (λ t. times_taken t ns) text
taken_more text n ns = more_taken text n ns (bytes_eq text n)

moved_over : (a b : ℕ) (c : Bool) → cond c (suc a) a + b ≡ a + cond c (suc b) b
moved_over a b true = omega arith
moved_over a b false = refl

-- the name at the front is taken, those behind are to come
pub taken_on : (text n : Text) (before after : Times) (whole : ℕ) (ns : List Text) → after ≡ once_more n before →
    before text + times_taken text (n ∷ ns) ≡ whole → after text + times_taken text ns ≡ whole
taken_on text n before after whole ns is e =
    ap (λ f. f text + times_taken text ns) is
    ∙ moved_over (before text) (times_taken text ns) (bytes_eq text n)
    ∙ ap (λ k. before text + k) (sym (taken_more text n ns))
    ∙ e
