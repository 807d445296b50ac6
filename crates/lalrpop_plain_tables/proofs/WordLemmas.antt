-- How the words of a text are found, place by place: for reading the words of a line.
use Rattle.std.proofs.Common.{◌≡◌, ◌∙◌, ℕ, suc, ◌+◌, ◌<◌, ◌≤◌, ◌⊎◌, inl, inr, List, []}
use Rattle.std.proofs.Common.{◌∷◌, ◌++◌, length, take, get_or}
use Rattle.std.proofs.Common.{ap, sym, refl, subst, arith}
use Rattle.std.specs.Str.{IsCharBoundary, IsUtf8}
use Rattle.std.proofs.lemmas.Bool.{cases_lt}
use Rattle.std.proofs.lemmas.List.{take_more}
use Rattle.std.proofs.lemmas.Str.{IsCharBoundary-after_ascii}
use Rattle.lalrpop_plain_tables.specs.Words.{IsFreeBlank, quotes_after, quotes_behind}
use Rattle.lalrpop_plain_tables.specs.declared.lines.words.Quotes.{Quotes}
use Rattle.lalrpop_plain_tables.specs.declared.lines.words.Quotes.TheVariants.{Outside}

quotes_more : (q : Quotes) (xs : List ℕ) (c : ℕ) → quotes_after q (xs ++ c ∷ []) ≡ quotes_behind (quotes_after q xs) c
quotes_more q [] c = refl
quotes_more q (x ∷ xs) c = quotes_more (quotes_behind q x) xs c

-- Before a place: a word may have begun where the last one ended, and there was no free blank since.
pub record IsScanning (text : List ℕ) (at from : ℕ) (q : Quotes) : Type 0 where
  pub quotes : q ≡ quotes_after Outside (take at text)
  pub order : from ≤ at
  pub within : at ≤ length text
  pub begins : (k : ℕ) → suc k ≡ from → IsFreeBlank text k
  pub whole : (k : ℕ) → from ≤ k → k < at → IsFreeBlank text k → ⊥
  pub boundary : IsCharBoundary text from

-- before the first character nothing is quoted, and a word may begin there
pub scanning_start : (text : List ℕ) → IsCharBoundary text 0 → IsScanning text 0 0 Outside
scanning_start text b = record {
  quotes = refl;
  order = omega arith;
  within = omega arith;
  begins = λ k e. absurd (omega (arith, e));
  whole = λ k h l f. absurd (omega (arith, l));
  boundary = b;
}

module _ (text : List ℕ) (at from : ℕ) (q : Quotes) (s : IsScanning text at from q) where
  module _ (c : ℕ) (here : at < length text) (read : c ≡ get_or text at 0) where
    pub blank_here : c ≡ 32 → q ≡ Outside → IsFreeBlank text at
    blank_here e o = record {
      within = here;
      blank = sym read ∙ e;
      free = sym s.quotes ∙ o;
    }

    pub no_blank_here : (c ≡ 32 → q ≡ Outside → ⊥) → IsFreeBlank text at → ⊥
    no_blank_here none f = none (read ∙ f.blank) (s.quotes ∙ f.free)

    quotes_on : quotes_behind q c ≡ quotes_after Outside (take (at + 1) text)
    quotes_on =
        let more : take (at + 1) text ≡ take at text ++ c ∷ [] = take_more text at 0 here
        ∙ ap (λ y. take at text ++ y ∷ []) (sym read) in
        ap (λ p. quotes_behind p c) s.quotes ∙ sym (ap (quotes_after Outside) more ∙ quotes_more Outside (take at text) c)

    -- behind a free blank another word may begin
    pub scan_blank : (q' : Quotes) → IsUtf8 text → c ≡ 32 → q ≡ Outside → q' ≡ quotes_behind q c →
        IsScanning text (at + 1) (at + 1) q'
    scan_blank q' u e o n = record {
      quotes = n ∙ quotes_on;
      order = omega arith;
      within = omega (arith, here);
      begins = λ k h. let same : k ≡ at = omega (arith, h) in subst (IsFreeBlank text) (sym same) (blank_here e o);
      whole = λ k h l f. absurd (omega (arith, h, l));
      boundary = IsCharBoundary-after_ascii text at u here (omega (arith, read, e));
    }

    pub scan_on : (q' : Quotes) → (c ≡ 32 → q ≡ Outside → ⊥) → q' ≡ quotes_behind q c → IsScanning text (at + 1) from q'
    scan_on q' none n = record {
      quotes = n ∙ quotes_on;
      order = omega (arith, s.order);
      within = omega (arith, here);
      begins = s.begins;
      whole = λ k h l f. go k h f (cases_lt k at) l;
      boundary = s.boundary;
    }
      where
        go : (k : ℕ) → from ≤ k → IsFreeBlank text k → (k < at) ⊎ (at ≤ k) → k < at + 1 → ⊥
        go k h f (inl l) b = s.whole k h l f
        go k h f (inr l) b =
            let same : k ≡ at = omega (arith, l, b) in
            no_blank_here none (subst (IsFreeBlank text) same f)
