-- Closed symbols in which each call has a level that its rule has: closing gives such, and the levels' names tell them apart; for the
-- law of what levels keep.
use Rattle.std.specs.Str.{bytes_eq}
use Rattle.std.proofs.Common.{◌≡◌, ℕ, ◌+◌, List, [], ◌∷◌, refl, ap, sym, ◌∙◌, subst, cond, Bool, true}
use Rattle.std.proofs.Common.{false, inl, inr, ◌⊎◌, length}
use Rattle.std.specs.Prelude.{Option, Some, None, map, filter, zip, option_map, ◌==◌, if◌then◌else◌}
use Rattle.std.proofs.lemmas.Bool.{true≢false, and_parts, and_from, eqb-true}
use Rattle.lalrpop_grammar_symbols.specs.Symbols.{Text, TextSpan, Terminal, Syms, Sym, WrittenSymbol, Closed, Closeds, closed_list}
use Rattle.lalrpop_grammar.specs.WrittenGrammar.{Rule, Grammar, rules_of}
use Rattle.lalrpop_grammar_language.specs.Among.{Among}
use Rattle.lalrpop_grammar_language.specs.Enabled.{EnabledGrammar, EnabledRule, IsRule, has_text}
use Rattle.lalrpop_grammar_language.specs.Levels.{levels}
use Rattle.lalrpop_grammar_language.specs.Closing.{Scope, Meaning, name_meaning, only_value, parameter_value, names_owner}
use Rattle.lalrpop_grammar_language.specs.Closing.{occurrences, call_level, if_plain, if_macro, plain_name, plain_call, close_terminal}
use Rattle.lalrpop_grammar_language.specs.Closing.{name_or, close, close_all, is_sound, are_sound, sound_or_faulty, close_list, inner}
use Rattle.lalrpop_grammar_language.specs.Expansion.{GrammarSymbol, Nonterminal, grammar_symbol, HasLevel}
use Rattle.lalrpop_grammar_language.proofs.ComparisonLemmas.{same_text-refl}
use Rattle.lalrpop_grammar_language.proofs.PlaceLemmas.{among_map, among_filter, same_text-eq}
use Rattle.lalrpop_grammar_language.proofs.SoundnessLemmas.{part-sub}
use Rattle.lalrpop_norm_theory.specs.Between.{grammar_between, rule_between}
use Rattle.lalrpop_norm_theory.specs.Premises.{AreDifferent}
use Rattle.lalrpop_grammar_language.proofs.AmongLemmas.{flat_map_among}
use Rattle.lalrpop_grammar_language.proofs.AmongLemmas.{map_among}
use Rattle.lalrpop_norm_theory.specs.LevelRules.{by_level_names, all_by_level_names}
use Rattle.lalrpop_norm_theory.specs.LeveledGrammar.{levels_in_order}
use Rattle.lalrpop_norm_theory.specs.LevelNames.{LeveledKey, leveled_keys_of, leveled_keys, name_of_leveled_key, AreLevelNames}
use Rattle.lalrpop_norm_theory.proofs.LevelOrderLemmas.{falling-has, meant_rule}
use Rattle.lalrpop_grammar_language.proofs.AmongLemmas.{text_found}
use Rattle.lalrpop_norm_theory.proofs.LeveledRuleLemmas.{level_of_leveled, written_rule}

-- a call of a rule that is there once, at a level that it has, with as many arguments as parameters
pub record IsWellCall (g : EnabledGrammar) (n : Text) (args : Closeds) (level : Option ℕ) : Type 0 where
  pub rule : EnabledRule
  pub is_rule : IsRule g n rule
  pub has_level : HasLevel rule level
  pub arguments : length (closed_list args) ≡ length rule.parameters

abbrev mutual
  pub IsWell : EnabledGrammar → Closed → Type 0
  IsWell g (Closed.terminal t) = Unit {0}
  IsWell g (Closed.call n args level) = IsWellCall g n args level × AreWell g args
  IsWell g (Closed.repeat op x) = IsWell g x
  IsWell g (Closed.group xs) = AreWell g xs
  IsWell g (Closed.choose x) = IsWell g x
  IsWell g (Closed.name m n x) = IsWell g x
  IsWell g Closed.lookahead = Unit {0}
  IsWell g Closed.lookbehind = Unit {0}
  IsWell g Closed.faulty = ⊥

  pub AreWell : EnabledGrammar → Closeds → Type 0
  AreWell g Closeds.none = Unit {0}
  AreWell g (Closeds.more x xs) = IsWell g x × AreWell g xs

-- each of a list of symbols that are well is well
pub well_listed : (g : EnabledGrammar) (xs : Closeds) → AreWell g xs → (x : Closed) → Among (closed_list xs) x → IsWell g x
well_listed g Closeds.none w x i = absurd i
well_listed g (Closeds.more y ys) w x (inl e) = subst (IsWell g) e w.0
well_listed g (Closeds.more y ys) w x (inr i) = well_listed g ys w.1 x i

mutual
  -- such a symbol is sound
  pub well_sound : (g : EnabledGrammar) (x : Closed) → IsWell g x → is_sound x ≡ true
  well_sound g (Closed.terminal t) w = refl
  well_sound g (Closed.call n args level) w = all_well_sound g args w.1
  well_sound g (Closed.repeat op x) w = well_sound g x w
  well_sound g (Closed.group xs) w = all_well_sound g xs w
  well_sound g (Closed.choose x) w = well_sound g x w
  well_sound g (Closed.name m n x) w = well_sound g x w
  well_sound g Closed.lookahead w = refl
  well_sound g Closed.lookbehind w = refl
  well_sound g Closed.faulty w = absurd w

  pub all_well_sound : (g : EnabledGrammar) (xs : Closeds) → AreWell g xs → are_sound xs ≡ true
  all_well_sound g Closeds.none w = refl
  all_well_sound g (Closeds.more x xs) w = and_from (is_sound x) (are_sound xs) (well_sound g x w.0) (all_well_sound g xs w.1)

pub inner_well : (g : EnabledGrammar) (x : Closed) → IsWell g x → IsWell g (inner x)
inner_well g (Closed.terminal t) w = w
inner_well g (Closed.call n args level) w = w
inner_well g (Closed.repeat op x) w = w
inner_well g (Closed.group xs) w = w
inner_well g (Closed.choose x) w = inner_well g x w
inner_well g (Closed.name m n x) w = inner_well g x w
inner_well g Closed.lookahead w = w
inner_well g Closed.lookbehind w = w
inner_well g Closed.faulty w = w

-- what a right side stands for: sound and well, or nothing
abbrev pub IsWellOrFaulty : EnabledGrammar → Closed → Type 0
IsWellOrFaulty g x = (x ≡ Closed.faulty) ⊎ IsWell g x

-- where each symbol is well or faulty, so is each nonterminal in the right side that they make
pub part_well : (g : EnabledGrammar) (xs : List Closed) → ((x : Closed) → Among xs x → IsWellOrFaulty g x) → (y : Closed) →
    Among (map grammar_symbol xs) (GrammarSymbol.nonterminal (Nonterminal.closed y)) → IsWellOrFaulty g y
part_well g xs w y i =
    let u = among_map grammar_symbol xs (GrammarSymbol.nonterminal (Nonterminal.closed y)) i in
    go u.0 (part-sub u.0 y u.2) (w u.0 u.1)
  where
    go : (x : Closed) → inner x ≡ y → IsWellOrFaulty g x → IsWellOrFaulty g y
    go x e (inl f) = inl (sym e ∙ ap inner f)
    go x e (inr h) = inr (subst (IsWell g) e (inner_well g x h))

-- closing

-- where calls have levels that are there, and parameters stand for well symbols
pub record IsWellScope (s : Scope) : Type 0 where
  pub levels : (k : ℕ) (n : Text) (r : EnabledRule) → IsRule s.grammar n r → HasLevel r (call_level s k n r)
  pub values : (n : Text) (c : Closed) → parameter_value s.binding n ≡ Some c → is_sound c ≡ true → IsWell s.grammar c

plain_well : (s : Scope) → IsWellScope s → (k : ℕ) (n : Text) (m : Meaning) → name_meaning s.grammar n ≡ m →
    is_sound (plain_name s k n m) ≡ true → IsWell s.grammar (plain_name s k n m)
plain_well s w k n (Meaning.rule r) e h = go r.parameters refl h
  where
    go : (ps : List Text) → r.parameters ≡ ps → is_sound (if_plain ps (Closed.call n Closeds.none (call_level s k n r))) ≡ true →
        IsWell s.grammar (if_plain ps (Closed.call n Closeds.none (call_level s k n r)))
    go [] f i = (
      record {
        rule = r;
        is_rule = meant_rule s.grammar n r e;
        has_level = w.levels k n r (meant_rule s.grammar n r e);
        arguments = sym (ap length f);
      },
      tt,
    )
    go (p ∷ ps) f i = absurd (true≢false (sym i))
plain_well s w k n Meaning.terminal e h = tt
plain_well s w k n Meaning.unclear e h = absurd (true≢false (sym h))

call_well : (s : Scope) → IsWellScope s → (k : ℕ) (n : Text) (args : Closeds) →
    (are_sound args ≡ true → AreWell s.grammar args) →
    (m : Meaning) → name_meaning s.grammar n ≡ m → is_sound (plain_call s k n args m) ≡ true →
    IsWell s.grammar (plain_call s k n args m)
call_well s w k n args each (Meaning.rule r) e h = go r.parameters refl h
  where
    call : Closed
    call = Closed.call n args (call_level s k n r)

    counted : (p : Text) (ps : List Text) → r.parameters ≡ p ∷ ps → (b : Bool) →
        (length (closed_list args) == length (p ∷ ps)) ≡ b →
        is_sound (cond b call Closed.faulty) ≡ true → IsWell s.grammar (cond b call Closed.faulty)
    counted p ps f true same i = (
      record {
        rule = r;
        is_rule = meant_rule s.grammar n r e;
        has_level = w.levels k n r (meant_rule s.grammar n r e);
        arguments = eqb-true (length (closed_list args)) (length (p ∷ ps)) same ∙ sym (ap length f);
      },
      each i,
    )
    counted p ps f false same i = absurd (true≢false (sym i))

    go : (ps : List Text) → r.parameters ≡ ps → is_sound (if_macro ps args call) ≡ true → IsWell s.grammar (if_macro ps args call)
    go [] f i = absurd (true≢false (sym i))
    go (p ∷ ps) f i = counted p ps f (length (closed_list args) == length (p ∷ ps)) refl i
call_well s w k n args each Meaning.terminal e h = absurd (true≢false (sym h))
call_well s w k n args each Meaning.unclear e h = absurd (true≢false (sym h))

terminal_well : (g : EnabledGrammar) (t : Terminal) → is_sound (close_terminal g t) ≡ true → IsWell g (close_terminal g t)
terminal_well g (Terminal.quoted t) h = tt
terminal_well g (Terminal.regex t) h = tt
terminal_well g (Terminal.bare n) h = go (has_text n g.bares) h
  where
    go : (b : Bool) → is_sound (cond b (Closed.terminal (Terminal.bare n)) Closed.faulty) ≡ true →
        IsWell g (cond b (Closed.terminal (Terminal.bare n)) Closed.faulty)
    go true i = tt
    go false i = absurd (true≢false (sym i))
terminal_well g Terminal.error h = tt

name_well : (s : Scope) → IsWellScope s → (n : Text) (other : Closed) → (is_sound other ≡ true → IsWell s.grammar other) →
    is_sound (name_or (parameter_value s.binding n) other) ≡ true → IsWell s.grammar (name_or (parameter_value s.binding n) other)
name_well s w n other each h = go (parameter_value s.binding n) refl h
  where
    go : (o : Option Closed) → parameter_value s.binding n ≡ o → is_sound (name_or o other) ≡ true →
        IsWell s.grammar (name_or o other)
    go (Some c) e i = w.values n c e i
    go None e i = each i

hidden_well : (g : EnabledGrammar) (o : Option Closed) (other : Closed) → (is_sound other ≡ true → IsWell g other) →
    is_sound (name_or (option_map (λ c. Closed.faulty) o) other) ≡ true → IsWell g (name_or (option_map (λ c. Closed.faulty) o) other)
hidden_well g (Some c) other each h = absurd (true≢false (sym h))
hidden_well g None other each h = each h

mutual
  -- what closes to a sound symbol closes to a well one
  pub close_well : (s : Scope) → IsWellScope s → (k : ℕ) (x : WrittenSymbol) → is_sound (close s k x) ≡ true →
      IsWell s.grammar (close s k x)
  close_well s w k (Sym.expr p xs) h = close_all_well s w k xs h
  close_well s w k (Sym.ambiguous_id p n) h =
      name_well s w n (plain_name s k n (name_meaning s.grammar n)) (plain_well s w k n (name_meaning s.grammar n) refl) h
  close_well s w k (Sym.nonterminal p n) h = plain_well s w k n (name_meaning s.grammar n) refl h
  close_well s w k (Sym.terminal p t) h = terminal_well s.grammar t h
  close_well s w k (Sym.macro p n args) h =
      let inside = close_all s (k + names_owner s.binding s.owner n) args in
      hidden_well s.grammar (parameter_value s.binding n) (plain_call s k n inside (name_meaning s.grammar n))
      (call_well s w k n inside (λ i. close_all_well s w (k + names_owner s.binding s.owner n) args i) (name_meaning s.grammar n) refl) h
  close_well s w k (Sym.repeat p op x) h = close_well s w k x h
  close_well s w k (Sym.choose p x) h = close_well s w k x h
  close_well s w k (Sym.name p m n x) h = close_well s w k x h
  close_well s w k (Sym.lookahead p) h = tt
  close_well s w k (Sym.lookbehind p) h = tt
  close_well s w k (Sym.error p) h = tt

  pub close_all_well : (s : Scope) → IsWellScope s → (k : ℕ) (xs : Syms TextSpan) → are_sound (close_all s k xs) ≡ true →
      AreWell s.grammar (close_all s k xs)
  close_all_well s w k Syms.none h = tt
  close_all_well s w k (Syms.more x xs) h =
      let after = k + occurrences s.binding s.owner x in
      let parts = and_parts (is_sound (close s k x)) (are_sound (close_all s after xs)) h in
      (close_well s w k x parts.0, close_all_well s w after xs parts.1)

sound_well : (g : EnabledGrammar) (x : Closed) → (is_sound x ≡ true → IsWell g x) → IsWellOrFaulty g (sound_or_faulty x)
sound_well g x each = go (is_sound x) refl
  where
    go : (b : Bool) → is_sound x ≡ b → IsWellOrFaulty g (cond b x Closed.faulty)
    go true e = inr (each e)
    go false e = inl refl

-- a right side is of well symbols and faulty ones
pub close_list_well : (s : Scope) → IsWellScope s → (k : ℕ) (xs : List WrittenSymbol) → (y : Closed) →
    Among (close_list s k xs) y →
    IsWellOrFaulty s.grammar y
close_list_well s w k [] y i = absurd i
close_list_well s w k (x ∷ xs) y (inl e) =
    subst (IsWellOrFaulty s.grammar) e (sound_well s.grammar (close s k x) (close_well s w k x))
close_list_well s w k (x ∷ xs) y (inr i) = close_list_well s w (k + occurrences s.binding s.owner x) xs y i

zip_second : (ps : List Text) (cs : List Closed) (p : Text × Closed) → Among (zip ps cs) p → Among cs p.1
zip_second [] cs p i = absurd i
zip_second (n ∷ ps) [] p i = absurd i
zip_second (n ∷ ps) (c ∷ cs) p (inl e) = inl (ap (λ z. z.1) e)
zip_second (n ∷ ps) (c ∷ cs) p (inr i) = inr (zip_second ps cs p i)

-- parameters that are bound to well symbols stand for such
pub values_well : (g : EnabledGrammar) (ps : List Text) (args : Closeds) → AreWell g args → (n : Text) (c : Closed) →
    parameter_value (zip ps (closed_list args)) n ≡ Some c → is_sound c ≡ true → IsWell g c
values_well g ps args w n c e h = go (map (λ p. p.1) (filter test pairs)) all e
  where
    test : Text × Closed → Bool
    test p = bytes_eq n p.0

    pairs : List (Text × Closed)
    pairs = zip ps (closed_list args)

    all : (d : Closed) → Among (map (λ p. p.1) (filter test pairs)) d → IsWell g d
    all d i =
        let u = among_map (λ p. p.1) (filter test pairs) d i in
        let v = among_filter test pairs u.0 u.1 in
        subst (IsWell g) u.2 (well_listed g args w u.0.1 (zip_second ps (closed_list args) u.0 v.0))

    go : (ds : List Closed) → ((d : Closed) → Among ds d → IsWell g d) → only_value ds ≡ Some c → IsWell g c
    go [] each f = cc
    go (d ∷ []) each f = let same : d ≡ c = cc in each c (inl same)
    go (d ∷ b ∷ ds) each f =
        let same : Closed.faulty ≡ c = cc in
        absurd (true≢false (sym (ap is_sound same ∙ h)))

-- the levels' names tell such symbols apart

-- the first key that is called so; where none is, the name itself without a level
abbrev pub key_named : (Text → ℕ → Text) → List LeveledKey → Text → LeveledKey
key_named f [] m = (m, None)
key_named f (k ∷ ks) m = if bytes_eq (name_of_leveled_key f k) m then k else key_named f ks m

-- where no two keys share a name each is found by its own
pub key_found : (f : Text → ℕ → Text) (ks : List LeveledKey) (k : LeveledKey) → AreDifferent (map (name_of_leveled_key f) ks) →
    Among ks k →
    key_named f ks (name_of_leveled_key f k) ≡ k
key_found f [] k d i = absurd i
key_found f (l ∷ ks) k d (inl e) = go (bytes_eq (name_of_leveled_key f l) (name_of_leveled_key f k)) refl
  where
    go : (b : Bool) → bytes_eq (name_of_leveled_key f l) (name_of_leveled_key f k) ≡ b →
        cond b l (key_named f ks (name_of_leveled_key f k)) ≡ k
    go true g = e
    go false g =
        absurd (true≢false (sym (subst (λ a. bytes_eq (name_of_leveled_key f a) (name_of_leveled_key f k) ≡ true) (sym e)
        (same_text-refl (name_of_leveled_key f k))) ∙ g))
key_found f (l ∷ ks) k d (inr i) =
    go (bytes_eq (name_of_leveled_key f l) (name_of_leveled_key f k)) refl (key_found f ks k d.1 i)
  where
    go : (b : Bool) → bytes_eq (name_of_leveled_key f l) (name_of_leveled_key f k) ≡ b →
        key_named f ks (name_of_leveled_key f k) ≡ k → cond b l (key_named f ks (name_of_leveled_key f k)) ≡ k
    go true g ih =
        let same = same_text-eq (name_of_leveled_key f l) (name_of_leveled_key f k) g in
        let there = text_found (name_of_leveled_key f k) (map (name_of_leveled_key f) ks) (map_among (name_of_leveled_key f) ks k i) in
        absurd (true≢false (sym (subst (λ t. has_text t (map (name_of_leveled_key f) ks) ≡ true) (sym same) there) ∙ d.0))
    go false g ih = ih

-- a rule and a level that it has are one of its keys
pub key_of_rule : (r : Rule) (level : Option ℕ) → HasLevel (rule_between r) level →
    Among {A = LeveledKey} (leveled_keys_of r) (r.name, level)
key_of_rule r None h =
    subst (λ b. Among {A = LeveledKey} (cond b (map (λ j. (r.name, Some j)) (levels_in_order (rule_between r))) ((r.name, None) ∷ []))
    (r.name, None))
    (sym h) (inl refl)
key_of_rule r (Some j) h =
    subst (λ b. Among {A = LeveledKey} (cond b (map (λ j. (r.name, Some j)) (levels_in_order (rule_between r))) ((r.name, None) ∷ []))
    (r.name, Some j))
    (sym (level_of_leveled (rule_between r) j h))
    (map_among (λ j. (r.name, Some j)) (levels_in_order (rule_between r)) j (falling-has (levels (rule_between r)) j h))

key_listed : (finds : Text → Text → Option Bool) (g : Grammar) (n : Text) (args : Closeds) (level : Option ℕ) →
    IsWellCall (grammar_between finds g) n args level → Among {A = LeveledKey} (leveled_keys g) (n, level)
key_listed finds g n args level w =
    let u = written_rule finds g n w.rule w.is_rule in
    subst (λ t. Among {A = LeveledKey} (leveled_keys g) (t, level)) u.3
    (flat_map_among leveled_keys_of (rules_of g.items) u.0 (u.0.name, level) u.1
    (key_of_rule u.0 level (subst (λ e. HasLevel e level) (sym u.2) w.has_level)))

-- the symbol with levels that has the names
abbrev mutual
  unlevel : (Text → LeveledKey) → Closed → Closed
  unlevel key (Closed.terminal t) = Closed.terminal t
  unlevel key (Closed.call n args level) = Closed.call (key n).0 (unlevel_all key args) (key n).1
  unlevel key (Closed.repeat op x) = Closed.repeat op (unlevel key x)
  unlevel key (Closed.group xs) = Closed.group (unlevel_all key xs)
  unlevel key (Closed.choose x) = Closed.choose (unlevel key x)
  unlevel key (Closed.name m n x) = Closed.name m n (unlevel key x)
  unlevel key Closed.lookahead = Closed.lookahead
  unlevel key Closed.lookbehind = Closed.lookbehind
  unlevel key Closed.faulty = Closed.faulty

  unlevel_all : (Text → LeveledKey) → Closeds → Closeds
  unlevel_all key Closeds.none = Closeds.none
  unlevel_all key (Closeds.more x xs) = Closeds.more (unlevel key x) (unlevel_all key xs)

abbrev key_in : (Text → ℕ → Text) → Grammar → Text → LeveledKey
key_in f g = key_named f (leveled_keys g)

mutual
  unleveled : (finds : Text → Text → Option Bool) (g : Grammar) (f : Text → ℕ → Text) → AreLevelNames g f → (x : Closed) →
      IsWell (grammar_between finds g) x → unlevel (key_in f g) (by_level_names f x) ≡ x
  unleveled finds g f w (Closed.terminal t) h = refl
  unleveled finds g f w (Closed.call n args level) h =
      let k = key_found f (leveled_keys g) (n, level) w.apart (key_listed finds g n args level h.0) in
      ap (λ l. Closed.call l.0 (unlevel_all (key_in f g) (all_by_level_names f args)) l.1) k
      ∙ ap (λ l. Closed.call n l level) (all_unleveled finds g f w args h.1)
  unleveled finds g f w (Closed.repeat op x) h = ap (λ y. Closed.repeat op y) (unleveled finds g f w x h)
  unleveled finds g f w (Closed.group xs) h = ap Closed.group (all_unleveled finds g f w xs h)
  unleveled finds g f w (Closed.choose x) h = ap Closed.choose (unleveled finds g f w x h)
  unleveled finds g f w (Closed.name m n x) h = ap (λ y. Closed.name m n y) (unleveled finds g f w x h)
  unleveled finds g f w Closed.lookahead h = refl
  unleveled finds g f w Closed.lookbehind h = refl
  unleveled finds g f w Closed.faulty h = refl

  all_unleveled : (finds : Text → Text → Option Bool) (g : Grammar) (f : Text → ℕ → Text) → AreLevelNames g f →
      (xs : Closeds) →
      AreWell (grammar_between finds g) xs → unlevel_all (key_in f g) (all_by_level_names f xs) ≡ xs
  all_unleveled finds g f w Closeds.none h = refl
  all_unleveled finds g f w (Closeds.more x xs) h =
      ap (λ y. Closeds.more y (unlevel_all (key_in f g) (all_by_level_names f xs))) (unleveled finds g f w x h.0)
      ∙ ap (λ l. Closeds.more x l) (all_unleveled finds g f w xs h.1)

either_unleveled : (finds : Text → Text → Option Bool) (g : Grammar) (f : Text → ℕ → Text) → AreLevelNames g f →
    (x : Closed) →
    IsWellOrFaulty (grammar_between finds g) x → unlevel (key_in f g) (by_level_names f x) ≡ x
either_unleveled finds g f w x (inl e) = ap (λ y. unlevel (key_in f g) (by_level_names f y)) e ∙ sym e
either_unleveled finds g f w x (inr h) = unleveled finds g f w x h

-- two such symbols under one name are one
pub well_apart : (finds : Text → Text → Option Bool) (g : Grammar) (f : Text → ℕ → Text) → AreLevelNames g f →
    (x y : Closed) →
    IsWellOrFaulty (grammar_between finds g) x → IsWellOrFaulty (grammar_between finds g) y →
    by_level_names f x ≡ by_level_names f y → x ≡ y
well_apart finds g f w x y i j e =
    sym (either_unleveled finds g f w x i) ∙ ap (unlevel (key_in f g)) e ∙ either_unleveled finds g f w y j
