-- Symbols whose occurrences are renamed go back to those before; for the law of places at levels.
use Rattle.std.proofs.Common.{◌≡◌, ℕ, ◌+◌, List, [], ◌∷◌, ◌++◌, refl, ap, sym, ◌∙◌, subst, inl, inr, ◌⊎◌}
use Rattle.std.specs.Prelude.{map}
use Rattle.lalrpop_grammar_symbols.specs.Symbols.{Text, TextSpan, Syms, Sym, WrittenSymbol, Closed, Closeds}
use Rattle.lalrpop_grammar_language.specs.Among.{Among}
use Rattle.lalrpop_grammar_language.specs.Closing.{Scope, close, occurrences}
use Rattle.lalrpop_norm_theory.specs.Depth.{calls_in, calls_in_all}
use Rattle.lalrpop_grammar_language.proofs.StepLemmas.{among_right}
use Rattle.lalrpop_grammar_language.proofs.StepLemmas.{among_left}
use Rattle.lalrpop_grammar_language.proofs.OrderLemmas.{among_parts}
use Rattle.lalrpop_norm_theory.specs.LevelRules.{by_level_names, all_by_level_names, rename_occurrences, rename_all_occurrences}
use Rattle.lalrpop_norm_theory.specs.LevelRules.{rename_listed_occurrences, IsLeveledScope, IsResolvedAfter, AreResolvedAfter}
use Rattle.lalrpop_norm_theory.specs.LevelRules.{AreListedResolvedAfter}
use Rattle.lalrpop_norm_theory.proofs.LevelRuleLemmas.{close_leveled}
use Rattle.lalrpop_norm_theory.specs.CallPlaces.{CountedSymbol, counted_symbols, place_of_symbol, symbols_of_row, symbols_within}
use Rattle.lalrpop_norm_theory.proofs.InnermostLemmas.{GoesBack}

-- calls under the names of the levels

pub joined-renamed : (f : Text → ℕ → Text) (xs ys : List Closed) →
    map (by_level_names f) xs ++ map (by_level_names f) ys ≡ map (by_level_names f) (xs ++ ys)
joined-renamed f [] ys = refl
joined-renamed f (x ∷ xs) ys = ap (λ l. by_level_names f x ∷ l) (joined-renamed f xs ys)

mutual
  pub calls-renamed : (f : Text → ℕ → Text) (x : Closed) → calls_in (by_level_names f x) ≡ map (by_level_names f) (calls_in x)
  calls-renamed f (Closed.terminal t) = refl
  calls-renamed f (Closed.call n Closeds.none level) = refl
  calls-renamed f (Closed.call n (Closeds.more x xs) level) = refl
  calls-renamed f (Closed.repeat op x) = calls-renamed f x
  calls-renamed f (Closed.group xs) = all_calls-renamed f xs
  calls-renamed f (Closed.choose x) = calls-renamed f x
  calls-renamed f (Closed.name m n x) = calls-renamed f x
  calls-renamed f Closed.lookahead = refl
  calls-renamed f Closed.lookbehind = refl
  calls-renamed f Closed.faulty = refl

  all_calls-renamed : (f : Text → ℕ → Text) (xs : Closeds) →
      calls_in_all (all_by_level_names f xs) ≡ map (by_level_names f) (calls_in_all xs)
  all_calls-renamed f Closeds.none = refl
  all_calls-renamed f (Closeds.more x xs) =
      ap (λ l. l ++ calls_in_all (all_by_level_names f xs)) (calls-renamed f x)
      ∙ ap (λ l. map (by_level_names f) (calls_in x) ++ l) (all_calls-renamed f xs)
      ∙ joined-renamed f (calls_in x) (calls_in_all xs)

-- a symbol stays where it is written
place-renamed : (f : Text → ℕ → Text) (s : Scope) (k : ℕ) (x : WrittenSymbol) →
    place_of_symbol (rename_occurrences f s k x) ≡ place_of_symbol x
place-renamed f s k (Sym.expr p xs) = refl
place-renamed f s k (Sym.ambiguous_id p n) = refl
place-renamed f s k (Sym.nonterminal p n) = refl
place-renamed f s k (Sym.terminal p t) = refl
place-renamed f s k (Sym.macro p n args) = refl
place-renamed f s k (Sym.repeat p op x) = refl
place-renamed f s k (Sym.choose p x) = refl
place-renamed f s k (Sym.name p m n x) = refl
place-renamed f s k (Sym.lookahead p) = refl
place-renamed f s k (Sym.lookbehind p) = refl
place-renamed f s k (Sym.error p) = refl

-- the symbol there is the one here with the owner's occurrences renamed, however many stand before it there
abbrev pub IsRenamed : (Text → ℕ → Text) → Scope → Scope → CountedSymbol → CountedSymbol → Type 0
IsRenamed f s t z v = IsResolvedAfter f s t z.0 z.1 × (v.1 ≡ rename_occurrences f s z.0 z.1)

pub either_way : {A B C : Type 0} → A ⊎ B → (A → C) → (B → C) → C
either_way (inl a) f g = f a
either_way (inr b) f g = g b

-- One of these symbols is the renamed one here, and one of those a symbol there goes back to.
abbrev RenamedOne : (Text → ℕ → Text) → Scope → Scope → List CountedSymbol → CountedSymbol → Type 0
RenamedOne f s t there u = (q : CountedSymbol) × Among there q × IsRenamed f s t u q

abbrev WrittenOne : (Text → ℕ → Text) → Scope → Scope → List CountedSymbol → CountedSymbol → Type 0
WrittenOne f s t here q = (u : CountedSymbol) × Among here u × IsRenamed f s t u q

module _ (f : Text → ℕ → Text) (s t : Scope) where
  abbrev here : ℕ → WrittenSymbol → List CountedSymbol
  here k x = symbols_within s.binding s.owner k x

  abbrev there : ℕ → WrittenSymbol → List CountedSymbol
  there j x = symbols_within t.binding t.owner j x

  abbrev row_here : ℕ → Syms TextSpan → List CountedSymbol
  row_here k xs = symbols_of_row s.binding s.owner k xs

  abbrev row_there : ℕ → Syms TextSpan → List CountedSymbol
  row_there j xs = symbols_of_row t.binding t.owner j xs

  renamed_here : (k j : ℕ) (x : WrittenSymbol) (u : CountedSymbol) (l : List CountedSymbol) → IsResolvedAfter f s t k x →
      (k, x) ≡ u → RenamedOne f s t ((j, rename_occurrences f s k x) ∷ l) u
  renamed_here k j x u l h e = (
    (j, rename_occurrences f s k x),
    inl refl,
    subst (λ (z : CountedSymbol). IsRenamed f s t z (j, rename_occurrences f s k x)) e (h, refl),
  )

  renamed_later : (v : CountedSymbol) (l : List CountedSymbol) (u : CountedSymbol) → RenamedOne f s t l u → RenamedOne f s t (v ∷ l) u
  renamed_later v l u r = (r.0, inr r.1, r.2)

  renamed_left : (l m : List CountedSymbol) (u : CountedSymbol) → RenamedOne f s t l u → RenamedOne f s t (l ++ m) u
  renamed_left l m u r = (r.0, among_left l m r.0 r.1, r.2)

  renamed_right : (l m : List CountedSymbol) (u : CountedSymbol) → RenamedOne f s t m u → RenamedOne f s t (l ++ m) u
  renamed_right l m u r = (r.0, among_right l m r.0 r.1, r.2)

  mutual
    -- each symbol inside stands inside the renamed one
    renamed_inside : (k j : ℕ) (x : WrittenSymbol) → IsResolvedAfter f s t k x → (u : CountedSymbol) → Among (here k x) u →
        RenamedOne f s t (there j (rename_occurrences f s k x)) u
    renamed_inside k j (Sym.expr p xs) h u i = row_renamed k j xs h u i
    renamed_inside k j (Sym.repeat p op x) h u (inl e) = renamed_here k j x u (there j (rename_occurrences f s k x)) h e
    renamed_inside k j (Sym.repeat p op x) h u (inr i) =
        renamed_later (j, rename_occurrences f s k x) (there j (rename_occurrences f s k x)) u (renamed_inside k j x h u i)
    renamed_inside k j (Sym.choose p x) h u (inl e) = renamed_here k j x u (there j (rename_occurrences f s k x)) h e
    renamed_inside k j (Sym.choose p x) h u (inr i) =
        renamed_later (j, rename_occurrences f s k x) (there j (rename_occurrences f s k x)) u (renamed_inside k j x h u i)
    renamed_inside k j (Sym.name p m n x) h u (inl e) = renamed_here k j x u (there j (rename_occurrences f s k x)) h e
    renamed_inside k j (Sym.name p m n x) h u (inr i) =
        renamed_later (j, rename_occurrences f s k x) (there j (rename_occurrences f s k x)) u (renamed_inside k j x h u i)
    renamed_inside k j (Sym.ambiguous_id p n) h u i = absurd i
    renamed_inside k j (Sym.nonterminal p n) h u i = absurd i
    renamed_inside k j (Sym.terminal p c) h u i = absurd i
    renamed_inside k j (Sym.macro p n args) h u i = absurd i
    renamed_inside k j (Sym.lookahead p) h u i = absurd i
    renamed_inside k j (Sym.lookbehind p) h u i = absurd i
    renamed_inside k j (Sym.error p) h u i = absurd i

    row_renamed : (k j : ℕ) (xs : Syms TextSpan) → AreResolvedAfter f s t k xs → (u : CountedSymbol) → Among (row_here k xs) u →
        RenamedOne f s t (row_there j (rename_all_occurrences f s k xs)) u
    row_renamed k j Syms.none h u i = absurd i
    row_renamed k j (Syms.more x xs) h u (inl e) =
        renamed_here k j x u (there j (rename_occurrences f s k x)
        ++ row_there (j + occurrences t.binding t.owner (rename_occurrences f s k x))
        (rename_all_occurrences f s (k + occurrences s.binding s.owner x) xs)) h.0 e
    row_renamed k j (Syms.more x xs) h u (inr i) =
        let first = there j (rename_occurrences f s k x) in
        let after = k + occurrences s.binding s.owner x in
        let others = j + occurrences t.binding t.owner (rename_occurrences f s k x) in
        let rest = row_there others (rename_all_occurrences f s after xs) in
        renamed_later (j, rename_occurrences f s k x) (first ++ rest) u
        (either_way (among_parts (here k x) (row_here after xs) u i)
        (λ m. renamed_left first rest u (renamed_inside k j x h.0 u m))
        (λ m. renamed_right first rest u (row_renamed after others xs h.1 u m)))

  written_here : (k j : ℕ) (x : WrittenSymbol) (q : CountedSymbol) (l : List CountedSymbol) → IsResolvedAfter f s t k x →
      (j, rename_occurrences f s k x) ≡ q → WrittenOne f s t ((k, x) ∷ l) q
  written_here k j x q l h e =
      ((k, x), inl refl, (h, sym (ap (λ (z : CountedSymbol). z.1) e)))

  written_later : (v : CountedSymbol) (l : List CountedSymbol) (q : CountedSymbol) → WrittenOne f s t l q → WrittenOne f s t (v ∷ l) q
  written_later v l q r = (r.0, inr r.1, r.2)

  written_left : (l m : List CountedSymbol) (q : CountedSymbol) → WrittenOne f s t l q → WrittenOne f s t (l ++ m) q
  written_left l m q r = (r.0, among_left l m r.0 r.1, r.2)

  written_right : (l m : List CountedSymbol) (q : CountedSymbol) → WrittenOne f s t m q → WrittenOne f s t (l ++ m) q
  written_right l m q r = (r.0, among_right l m r.0 r.1, r.2)

  mutual
    -- and each that stands inside the renamed one goes back
    written_inside : (k j : ℕ) (x : WrittenSymbol) → IsResolvedAfter f s t k x → (q : CountedSymbol) →
        Among (there j (rename_occurrences f s k x)) q → WrittenOne f s t (here k x) q
    written_inside k j (Sym.expr p xs) h q i = row_written k j xs h q i
    written_inside k j (Sym.repeat p op x) h q (inl e) = written_here k j x q (here k x) h e
    written_inside k j (Sym.repeat p op x) h q (inr i) = written_later (k, x) (here k x) q (written_inside k j x h q i)
    written_inside k j (Sym.choose p x) h q (inl e) = written_here k j x q (here k x) h e
    written_inside k j (Sym.choose p x) h q (inr i) = written_later (k, x) (here k x) q (written_inside k j x h q i)
    written_inside k j (Sym.name p m n x) h q (inl e) = written_here k j x q (here k x) h e
    written_inside k j (Sym.name p m n x) h q (inr i) = written_later (k, x) (here k x) q (written_inside k j x h q i)
    written_inside k j (Sym.ambiguous_id p n) h q i = absurd i
    written_inside k j (Sym.nonterminal p n) h q i = absurd i
    written_inside k j (Sym.terminal p c) h q i = absurd i
    written_inside k j (Sym.macro p n args) h q i = absurd i
    written_inside k j (Sym.lookahead p) h q i = absurd i
    written_inside k j (Sym.lookbehind p) h q i = absurd i
    written_inside k j (Sym.error p) h q i = absurd i

    row_written : (k j : ℕ) (xs : Syms TextSpan) → AreResolvedAfter f s t k xs → (q : CountedSymbol) →
        Among (row_there j (rename_all_occurrences f s k xs)) q → WrittenOne f s t (row_here k xs) q
    row_written k j Syms.none h q i = absurd i
    row_written k j (Syms.more x xs) h q (inl e) =
        written_here k j x q (here k x ++ row_here (k + occurrences s.binding s.owner x) xs) h.0 e
    row_written k j (Syms.more x xs) h q (inr i) =
        let after = k + occurrences s.binding s.owner x in
        let others = j + occurrences t.binding t.owner (rename_occurrences f s k x) in
        written_later (k, x) (here k x ++ row_here after xs) q
        (either_way (among_parts (there j (rename_occurrences f s k x)) (row_there others (rename_all_occurrences f s after xs)) q i)
        (λ m. written_left (here k x) (row_here after xs) q (written_inside k j x h.0 q m))
        (λ m. written_right (here k x) (row_here after xs) q (row_written after others xs h.1 q m)))

  -- the symbols of a renamed alternative go back to those before
  pub listed_written : (k j : ℕ) (xs : List WrittenSymbol) → AreListedResolvedAfter f s t k xs → (q : CountedSymbol) →
      Among (counted_symbols t.binding t.owner j (rename_listed_occurrences f s k xs)) q →
      WrittenOne f s t (counted_symbols s.binding s.owner k xs) q
  listed_written k j [] h q i = absurd i
  listed_written k j (x ∷ xs) h q (inl e) =
      written_here k j x q (counted_symbols s.binding s.owner (k + occurrences s.binding s.owner x) xs) h.0 e
  listed_written k j (x ∷ xs) h q (inr i) =
      written_later (k, x) (counted_symbols s.binding s.owner (k + occurrences s.binding s.owner x) xs) q
      (listed_written (k + occurrences s.binding s.owner x) (j + occurrences t.binding t.owner (rename_occurrences f s k x)) xs h.1 q i)

  -- and so does what stands inside
  pub renamed_goes_back : IsLeveledScope f s t → GoesBack s t (by_level_names f) (IsRenamed f s t)
  renamed_goes_back w = record {
    placed = λ z v r. ap place_of_symbol r.1 ∙ place-renamed f s z.0 z.1;
    closed = λ z v r. ap (close t v.0) r.1 ∙ close_leveled f s t w z.0 v.0 z.1 r.0;
    inside = λ z v r u i.
        let n = renamed_inside z.0 v.0 z.1 r.0 u i in
        (n.0, subst (λ y. Among (there v.0 y) n.0) (sym r.1) n.1, n.2);
    behind = λ z v r q i. written_inside z.0 v.0 z.1 r.0 q (subst (λ y. Among (there v.0 y) q) r.1 i);
    calls = calls-renamed f;
  }
