-- Keys that are met beside renamed occurrences are those before, under the names of the levels; for the law of places at levels.
use Rattle.std.proofs.Common.{◌≡◌, ℕ, ◌+◌, List, [], ◌∷◌, ◌++◌, refl, ap, sym, ◌∙◌, subst}
use Rattle.std.proofs.lemmas.List.{map-append}
use Rattle.std.specs.Prelude.{map}
use Rattle.lalrpop_grammar_symbols.specs.Symbols.{Text, TextSpan, Terminal, Op, Sym, Syms, syms, WrittenSymbol, Closed, Closeds}
use Rattle.lalrpop_grammar_language.specs.Among.{Among}
use Rattle.lalrpop_grammar_language.specs.Closing.{Scope, occurrences}
use Rattle.lalrpop_grammar_language.proofs.PlaceLemmas.{among_map}
use Rattle.lalrpop_grammar_rules.specs.Views.{closeds}
use Rattle.lalrpop_norm_theory.specs.KeyTables.{keys_in, keys_in_all}
use Rattle.lalrpop_norm_theory.specs.LevelRules.{all_by_level_names, by_level_names, rename_all_occurrences}
use Rattle.lalrpop_norm_theory.specs.LevelRules.{rename_listed_occurrences, rename_occurrences}
use Rattle.lalrpop_norm_keys.specs.Standing.{keys_of_repeat}
use Rattle.lalrpop_norm_keys.specs.KeyPlaces.{IsShapeKey}
use Rattle.lalrpop_norm_keys.specs.MetKeys.{MetKey, all_met_at, keys_met, keys_met_in_row}

mutual
  -- the keys that stand in a symbol are renamed with it
  keys_renamed : (f : Text → ℕ → Text) (x : Closed) → keys_in (by_level_names f x) ≡ map (by_level_names f) (keys_in x)
  keys_renamed f (Closed.terminal (Terminal.quoted t)) = refl
  keys_renamed f (Closed.terminal (Terminal.regex t)) = refl
  keys_renamed f (Closed.terminal (Terminal.bare n)) = refl
  keys_renamed f (Closed.terminal Terminal.error) = refl
  keys_renamed f (Closed.call n args level) = refl
  keys_renamed f (Closed.repeat Op.plus x) =
      ap (λ (l : List Closed). Closed.repeat Op.plus (by_level_names f x) ∷ l) (keys_renamed f x)
  keys_renamed f (Closed.repeat Op.star x) =
      ap (λ (l : List Closed). Closed.repeat Op.star (by_level_names f x) ∷ Closed.repeat Op.plus (by_level_names f x) ∷ l)
      (keys_renamed f x)
  keys_renamed f (Closed.repeat Op.question x) =
      ap (λ (l : List Closed). Closed.repeat Op.question (by_level_names f x) ∷ l) (keys_renamed f x)
  keys_renamed f (Closed.group xs) = ap (λ (l : List Closed). Closed.group (all_by_level_names f xs) ∷ l) (all_keys_renamed f xs)
  keys_renamed f (Closed.choose x) = keys_renamed f x
  keys_renamed f (Closed.name m n x) = keys_renamed f x
  keys_renamed f Closed.lookahead = refl
  keys_renamed f Closed.lookbehind = refl
  keys_renamed f Closed.faulty = refl

  all_keys_renamed : (f : Text → ℕ → Text) (xs : Closeds) →
      keys_in_all (all_by_level_names f xs) ≡ map (by_level_names f) (keys_in_all xs)
  all_keys_renamed f Closeds.none = refl
  all_keys_renamed f (Closeds.more x xs) =
      ap (λ (l : List Closed). l ++ keys_in_all (all_by_level_names f xs)) (keys_renamed f x)
      ∙ ap (λ (l : List Closed). map (by_level_names f) (keys_in x) ++ l) (all_keys_renamed f xs)
      ∙ sym (map-append (by_level_names f) (keys_in x) (keys_in_all xs))

-- and stays what it is
pub shape_renamed : (f : Text → ℕ → Text) (x : Closed) → IsShapeKey x → IsShapeKey (by_level_names f x)
shape_renamed f (Closed.repeat op x) h = tt
shape_renamed f (Closed.group xs) h = tt
shape_renamed f Closed.lookahead h = tt
shape_renamed f Closed.lookbehind h = tt
shape_renamed f (Closed.terminal t) h = absurd h
shape_renamed f (Closed.call n args level) h = absurd h
shape_renamed f (Closed.choose x) h = absurd h
shape_renamed f (Closed.name m n x) h = absurd h
shape_renamed f Closed.faulty h = absurd h

repeats_renamed : (f : Text → ℕ → Text) (o : Op) (x : Closed) →
    keys_of_repeat o (by_level_names f x) ≡ map (by_level_names f) (keys_of_repeat o x)
repeats_renamed f Op.plus x = refl
repeats_renamed f Op.star x = refl
repeats_renamed f Op.question x = refl

-- a key that is met, under the names of the levels
abbrev pub renamed_met : (Text → ℕ → Text) → MetKey → MetKey
renamed_met f m = (by_level_names f m.0, m.1)

met_at_renamed : (f : Text → ℕ → Text) (p : TextSpan) (xs : List Closed) →
    all_met_at p (map (by_level_names f) xs) ≡ map (renamed_met f) (all_met_at p xs)
met_at_renamed f p [] = refl
met_at_renamed f p (x ∷ xs) = ap (λ (l : List MetKey). (by_level_names f x, p) ∷ l) (met_at_renamed f p xs)

keys_at_renamed : (f : Text → ℕ → Text) (p : TextSpan) (x : Closed) →
    all_met_at p (keys_in (by_level_names f x)) ≡ map (renamed_met f) (all_met_at p (keys_in x))
keys_at_renamed f p x = ap (all_met_at p) (keys_renamed f x) ∙ met_at_renamed f p (keys_in x)

joined_renamed : (f : Text → ℕ → Text) (ls ms ks js : List MetKey) → ls ≡ map (renamed_met f) ks →
    ms ≡ map (renamed_met f) js → ls ++ ms ≡ map (renamed_met f) (ks ++ js)
joined_renamed f ls ms ks js e d =
    ap (λ (l : List MetKey). l ++ ms) e ∙ ap (λ (l : List MetKey). map (renamed_met f) ks ++ l) d
    ∙ sym (map-append (renamed_met f) ks js)

mutual
  pub met_renamed : (f : Text → ℕ → Text) (s : Scope) (k : ℕ) (w : WrittenSymbol) (c : Closed) →
      keys_met (rename_occurrences f s k w) (by_level_names f c) ≡ map (renamed_met f) (keys_met w c)
  met_renamed f s k (Sym.expr p ws) (Closed.group cs) =
      ap (λ (l : List MetKey). (Closed.group (all_by_level_names f cs), p) ∷ l) (row_renamed f s k ws cs)
  met_renamed f s k (Sym.expr p ws) _ = refl
  met_renamed f s k (Sym.repeat p op w) (Closed.repeat o c) =
      joined_renamed f (all_met_at p (keys_of_repeat o (by_level_names f c)))
      (keys_met (rename_occurrences f s k w) (by_level_names f c)) (all_met_at p (keys_of_repeat o c)) (keys_met w c)
      (ap (all_met_at p) (repeats_renamed f o c) ∙ met_at_renamed f p (keys_of_repeat o c)) (met_renamed f s k w c)
  met_renamed f s k (Sym.repeat p op w) _ = refl
  met_renamed f s k (Sym.choose p w) (Closed.choose c) = met_renamed f s k w c
  met_renamed f s k (Sym.choose p w) _ = refl
  met_renamed f s k (Sym.name p m n w) (Closed.name i j c) = met_renamed f s k w c
  met_renamed f s k (Sym.name p m n w) _ = refl
  met_renamed f s k (Sym.ambiguous_id p n) c = keys_at_renamed f p c
  met_renamed f s k (Sym.nonterminal p n) c = keys_at_renamed f p c
  met_renamed f s k (Sym.terminal p t) c = keys_at_renamed f p c
  met_renamed f s k (Sym.macro p n args) c = keys_at_renamed f p c
  met_renamed f s k (Sym.lookahead p) c = keys_at_renamed f p c
  met_renamed f s k (Sym.lookbehind p) c = keys_at_renamed f p c
  met_renamed f s k (Sym.error p) c = keys_at_renamed f p c

  row_renamed : (f : Text → ℕ → Text) (s : Scope) (k : ℕ) (ws : Syms TextSpan) (cs : Closeds) →
      keys_met_in_row (rename_all_occurrences f s k ws) (all_by_level_names f cs) ≡ map (renamed_met f) (keys_met_in_row ws cs)
  row_renamed f s k Syms.none cs = refl
  row_renamed f s k (Syms.more w ws) Closeds.none = refl
  row_renamed f s k (Syms.more w ws) (Closeds.more c cs) =
      joined_renamed f (keys_met (rename_occurrences f s k w) (by_level_names f c))
      (keys_met_in_row (rename_all_occurrences f s (k + occurrences s.binding s.owner w) ws) (all_by_level_names f cs))
      (keys_met w c) (keys_met_in_row ws cs) (met_renamed f s k w c)
      (row_renamed f s (k + occurrences s.binding s.owner w) ws cs)

-- beside a right side
listed_renamed : (f : Text → ℕ → Text) (s : Scope) (k : ℕ) (ws : List WrittenSymbol) (cs : List Closed) →
    keys_met_in_row (syms (rename_listed_occurrences f s k ws)) (closeds (map (by_level_names f) cs))
    ≡ map (renamed_met f) (keys_met_in_row (syms ws) (closeds cs))
listed_renamed f s k [] cs = refl
listed_renamed f s k (w ∷ ws) [] = refl
listed_renamed f s k (w ∷ ws) (c ∷ cs) =
    joined_renamed f (keys_met (rename_occurrences f s k w) (by_level_names f c))
    (keys_met_in_row (syms (rename_listed_occurrences f s (k + occurrences s.binding s.owner w) ws)) (closeds (map (by_level_names f) cs)))
    (keys_met w c) (keys_met_in_row (syms ws) (closeds cs)) (met_renamed f s k w c)
    (listed_renamed f s (k + occurrences s.binding s.owner w) ws cs)

-- so what is met beside the renamed symbols goes back
pub renamed_back : (f : Text → ℕ → Text) (s : Scope) (ws : List WrittenSymbol) (cs : List Closed) (y : Closed) (p : TextSpan) →
    Among (keys_met_in_row (syms (rename_listed_occurrences f s 0 ws)) (closeds (map (by_level_names f) cs))) (y, p) →
    (x : Closed) × (y ≡ by_level_names f x) × Among (keys_met_in_row (syms ws) (closeds cs)) (x, p)
renamed_back f s ws cs y p i =
    let u = among_map (renamed_met f) (keys_met_in_row (syms ws) (closeds cs)) (y, p)
    (subst (λ (l : List MetKey). Among l (y, p)) (listed_renamed f s 0 ws cs) i) in
    let m : MetKey = u.0 in (
      m.0,
      sym (ap (λ (q : MetKey). q.0) u.2),
      subst (λ (q : TextSpan). Among (keys_met_in_row (syms ws) (closeds cs)) (m.0, q)) (ap (λ (q : MetKey). q.1) u.2) u.1,
    )
