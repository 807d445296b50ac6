-- No name begins with the prefix where the first pass finds none that does; neither do the names that levels are given. For the
-- laws of what passes leave.
use Rattle.std.specs.Fmt.{digits, digits_onto, digit_glyph}
use Rattle.std.proofs.Common.{◌≡◌, ℕ, zero, suc, ◌<◌, List, [], ◌∷◌, ◌++◌, refl, ap, sym, ◌∙◌, subst, cond}
use Rattle.std.proofs.Common.{Bool, true, false, inl, inr, ◌⊎◌, arith}
use Rattle.std.specs.Prelude.{Option, Some, None, map, flat_map, codes, decimal, replicate, ◌+◌, ◌==◌, ◌/◌, ◌%◌, ◌&&◌}
use Rattle.std.specs.Prelude.{if◌then◌else◌}
use Rattle.std.proofs.lemmas.Bool.{true≢false, false_from_ne_true, and_parts, eqb-true, eq-eqb}
use Rattle.std.proofs.lemmas.Bool.Decides.{nat_tests}
use Rattle.lalrpop_grammar_symbols.specs.Symbols.{Text, TextSpan, Terminal}
use Rattle.lalrpop_grammar.specs.WrittenGrammar.{WrittenEntry, WrittenItem, Rule, Grammar, rules_of}
use Rattle.lalrpop_grammar_language.specs.Among.{Among}
use Rattle.lalrpop_grammar_language.specs.Enabled.{EnabledRule, bare_of, bares_of}
use Rattle.lalrpop_grammar_language.specs.Levels.{loosest}
use Rattle.lalrpop_grammar_language.specs.Starts.{has_none}
use Rattle.lalrpop_grammar_language.specs.Expansion.{HasLevel}
use Rattle.lalrpop_grammar_language.proofs.PlaceLemmas.{among_map}
use Rattle.lalrpop_norm_theory.specs.Between.{rule_between, grammar_between, without_disabled}
use Rattle.lalrpop_norm_theory.specs.Keys.{with_number}
use Rattle.lalrpop_norm_theory.specs.Premises.{IsReadGrammar}
use Rattle.lalrpop_grammar_language.proofs.AmongLemmas.{flat_map_among}
use Rattle.lalrpop_grammar_language.proofs.AmongLemmas.{map_among}
use Rattle.lalrpop_grammar_language.proofs.AmongLemmas.{among_flat_map}
use Rattle.lalrpop_grammar_language.proofs.StepLemmas.{among_right}
use Rattle.lalrpop_grammar_language.proofs.StepLemmas.{among_left}
use Rattle.lalrpop_grammar_language.proofs.OrderLemmas.{among_parts}
use Rattle.lalrpop_norm_theory.proofs.BetweenLemmas.{bares_left}
use Rattle.lalrpop_norm_theory.specs.LevelRules.{level_name}
use Rattle.lalrpop_norm_theory.specs.Resolving.{defined_names, resolved_grammar}
use Rattle.lalrpop_norm_theory.proofs.ResolvingLemmas.{bares_resolved}
use Rattle.lalrpop_norm_theory.specs.LeveledGrammar.{leveled_grammar}
use Rattle.lalrpop_norm_theory.specs.LevelNames.{numbered_text, plain_levels, plain_levels_of, tighter_levels, AreLevelNames}
use Rattle.lalrpop_norm_theory.proofs.LevelOrderLemmas.{loosest_or_tighter}
use Rattle.lalrpop_norm_theory.proofs.LeveledRuleLemmas.{rule_of_key, bares_of-leveled}
use Rattle.lalrpop_norm_theory.proofs.PackedNameLemmas.{macro_numbered, numbered_as}
use Rattle.lalrpop_grammar_repr.specs.declared.norm_error.NormErrorKind.TheVariants as kinds
use Rattle.lalrpop_norm_prevalidate.specs.Names.{SpannedName, name_in_entry, names_in_group, names_in_rule, names_in_item}
use Rattle.lalrpop_norm_prevalidate.specs.Names.{has_prefix}
use Rattle.lalrpop_norm_prevalidate.specs.Faults.{StandsNowhere}
use Rattle.lalrpop_norm_chain.specs.PremiseLaws.{HasFreePrefix}
use Rattle.lalrpop_norm_chain.proofs.SourceLemmas.{leveled_source}
use Rattle.lalrpop_norm_chain.proofs.PlainNameLemmas.{from_read}

-- a run of underscores

-- the text begins with an underscore
abbrev pub begins_low : Text → Bool
begins_low [] = false
begins_low (c ∷ cs) = 95 == c

-- a name that doesn't begin with so many underscores doesn't, when text is put behind that begins with no underscore
pub free_joined : (u : ℕ) (n s : Text) → begins_low s ≡ false → has_prefix (replicate u 95) n ≡ false →
    has_prefix (replicate u 95) (n ++ s) ≡ false
free_joined zero n s h e = e
free_joined (suc u) [] [] h e = refl
free_joined (suc u) [] (c ∷ s) h e = ap (λ (b : Bool). b && has_prefix (replicate u 95) s) h
free_joined (suc u) (c ∷ n) s h e = go (95 == c) e (free_joined u n s h)
  where
    go : (b : Bool) → (b && has_prefix (replicate u 95) n) ≡ false →
        (has_prefix (replicate u 95) n ≡ false → has_prefix (replicate u 95) (n ++ s) ≡ false) →
        (b && has_prefix (replicate u 95) (n ++ s)) ≡ false
    go true k later = later k
    go false k later = refl

-- numbers begin with a digit

digit_high : (d : ℕ) → d < 10 → (95 == digit_glyph false d) ≡ false
digit_high d h = grind (arith, nat_tests)

either_high : (last : Bool) (s t : Text) → begins_low s ≡ false → begins_low t ≡ false → begins_low (cond last s t) ≡ false
either_high true s t hs ht = hs
either_high false s t hs ht = ht

digits_high : (k n : ℕ) (acc : Text) → begins_low acc ≡ false → begins_low (digits_onto k 10 false n acc) ≡ false
digits_high zero n acc h = h
digits_high (suc k) n acc h =
    let d = digit_glyph false (n % 10) in
    let front : begins_low (d ∷ acc) ≡ false = digit_high (n % 10) (omega arith) in
    either_high (n / 10 == 0) (d ∷ acc) (digits_onto k 10 false (n / 10) (d ∷ acc)) front (digits_high k (n / 10) (d ∷ acc) front)

-- a number in decimal digits begins with no underscore
pub decimal_high : (n : ℕ) → begins_low (decimal n) ≡ false
unfolding digits
decimal_high n = digits_high 64 n [] refl

-- so a name with a number begins as the name does
free_numbered : (u : ℕ) (n : Text) (j k : ℕ) → has_prefix (replicate u 95) n ≡ false →
    has_prefix (replicate u 95) (with_number (numbered_text n j) k) ≡ false
free_numbered u n j zero e = free_joined u n (decimal j) (decimal_high j) e
free_numbered u n j (suc k) e =
    free_joined u (numbered_text n j ++ codes "~") (decimal (k + 2)) (decimal_high (k + 2))
    (free_joined u (numbered_text n j) (codes "~") refl (free_joined u n (decimal j) (decimal_high j) e))

-- what the first pass looks at

rule_first : (q r : Rule) → q ≡ r → Among (names_in_item (WrittenItem.nonterminal q)) (r.name, r.span)
unfolding names_in_item names_in_rule
rule_first q r e = inl (ap (λ (p : Rule). (p.name, p.span)) e)

rule_told : (w : Grammar) (r : Rule) → Among (rules_of w.items) r → Among (flat_map names_in_item w.items) (r.name, r.span)
rule_told w r i = among_items w.items i
  where
    among_items : (items : List WrittenItem) → Among (rules_of items) r → Among (flat_map names_in_item items) (r.name, r.span)
    among_items [] j = absurd j
    among_items (WrittenItem.nonterminal q ∷ items) (inl e) =
        among_left (names_in_item (WrittenItem.nonterminal q)) (flat_map names_in_item items) (r.name, r.span) (rule_first q r e)
    among_items (WrittenItem.nonterminal q ∷ items) (inr j) =
        among_right (names_in_item (WrittenItem.nonterminal q)) (flat_map names_in_item items) (r.name, r.span) (among_items items j)
    among_items (WrittenItem.match_token groups place ∷ items) j =
        among_right (names_in_item (WrittenItem.match_token groups place)) (flat_map names_in_item items) (r.name, r.span)
        (among_items items j)
    among_items (WrittenItem.extern_token block ∷ items) j =
        among_right (names_in_item (WrittenItem.extern_token block)) (flat_map names_in_item items) (r.name, r.span)
        (among_items items j)
    among_items (WrittenItem.intern_token entries ∷ items) j =
        among_right (names_in_item (WrittenItem.intern_token entries)) (flat_map names_in_item items) (r.name, r.span)
        (among_items items j)
    among_items (WrittenItem.import text ∷ items) j =
        among_right (names_in_item (WrittenItem.import text)) (flat_map names_in_item items) (r.name, r.span) (among_items items j)

-- a name, told somewhere
abbrev IsTold : List SpannedName → Text → Type 0
IsTold names n = (p : TextSpan) × Among names (n, p)

told_left : (xs ys : List SpannedName) (n : Text) → IsTold xs n → IsTold (xs ++ ys) n
told_left xs ys n t = (t.0, among_left xs ys (n, t.0) t.1)

told_right : (xs ys : List SpannedName) (n : Text) → IsTold ys n → IsTold (xs ++ ys) n
told_right xs ys n t = (t.0, among_right xs ys (n, t.0) t.1)

entry_told : (e : WrittenEntry) (n : Text) → Among (bare_of e) n → IsTold (name_in_entry e) n
entry_told (WrittenEntry.mapped l (Terminal.bare m) p) n (inl e) = (p, inl (ap (λ t. (t, p)) e))
entry_told (WrittenEntry.mapped l (Terminal.bare m) p) n (inr i) = absurd i
entry_told (WrittenEntry.mapped l (Terminal.quoted t) p) n i = absurd i
entry_told (WrittenEntry.mapped l (Terminal.regex t) p) n i = absurd i
entry_told (WrittenEntry.mapped l Terminal.error p) n i = absurd i
entry_told (WrittenEntry.catch_all p) n i = absurd i
entry_told (WrittenEntry.unmapped l p) n i = absurd i
entry_told (WrittenEntry.skip l p) n i = absurd i

group_told : (es : List WrittenEntry) (n : Text) → Among (flat_map bare_of es) n → IsTold (names_in_group es) n
unfolding names_in_group
group_told es n i =
    let e = among_flat_map bare_of es n i in
    let t = entry_told e.0 n e.2 in
    (t.0, flat_map_among name_in_entry es e.0 (n, t.0) e.1 t.1)

block_told : (groups : List (List WrittenEntry)) (place : TextSpan) (n : Text) → Among (flat_map (flat_map bare_of) groups) n →
    IsTold (names_in_item (WrittenItem.match_token groups place)) n
unfolding names_in_item
block_told groups place n i =
    let es = among_flat_map (flat_map bare_of) groups n i in
    let t = group_told es.0 n es.2 in
    (t.0, flat_map_among names_in_group groups es.0 (n, t.0) es.1 t.1)

bare_told : (items : List WrittenItem) (n : Text) → Among (bares_of items) n → IsTold (flat_map names_in_item items) n
bare_told [] n i = absurd i
bare_told (WrittenItem.match_token groups place ∷ items) n i =
    go (among_parts (flat_map (flat_map bare_of) groups) (bares_of items) n i) (λ j. bare_told items n j)
  where
    go : Among (flat_map (flat_map bare_of) groups) n ⊎ Among (bares_of items) n →
        (Among (bares_of items) n → IsTold (flat_map names_in_item items) n) →
        IsTold (names_in_item (WrittenItem.match_token groups place) ++ flat_map names_in_item items) n
    go (inl j) later =
        told_left (names_in_item (WrittenItem.match_token groups place)) (flat_map names_in_item items) n (block_told groups place n j)
    go (inr j) later =
        told_right (names_in_item (WrittenItem.match_token groups place)) (flat_map names_in_item items) n (later j)
bare_told (WrittenItem.nonterminal r ∷ items) n i =
    told_right (names_in_item (WrittenItem.nonterminal r)) (flat_map names_in_item items) n (bare_told items n i)
bare_told (WrittenItem.extern_token block ∷ items) n i =
    told_right (names_in_item (WrittenItem.extern_token block)) (flat_map names_in_item items) n (bare_told items n i)
bare_told (WrittenItem.intern_token entries ∷ items) n i =
    told_right (names_in_item (WrittenItem.intern_token entries)) (flat_map names_in_item items) n (bare_told items n i)
bare_told (WrittenItem.import text ∷ items) n i =
    told_right (names_in_item (WrittenItem.import text)) (flat_map names_in_item items) n (bare_told items n i)

-- none that is told begins with the prefix
free_told : (w : Grammar) → StandsNowhere kinds.ReservedPrefix w → (n : Text) → IsTold (flat_map names_in_item w.items) n →
    has_prefix w.prefix n ≡ false
free_told w none n t =
    false_from_ne_true (has_prefix w.prefix n)
    (λ e. none t.0 (record { told = (n, t.0); among = t.1; begins = e; place = refl }))

rule_free : (w : Grammar) → StandsNowhere kinds.ReservedPrefix w → (r : Rule) → Among (rules_of w.items) r →
    has_prefix w.prefix r.name ≡ false
rule_free w none r i = free_told w none r.name (r.span, rule_told w r i)

bare_free : (w : Grammar) → StandsNowhere kinds.ReservedPrefix w → (n : Text) → Among (bares_of w.items) n →
    has_prefix w.prefix n ≡ false
bare_free w none n i = free_told w none n (bare_told w.items n i)

-- the grammar in which each level has a rule

level_of_plain : (r : Rule) (j : ℕ) → Among (tighter_levels r) j → (ps : List Text) → has_none ps ≡ true →
    Among {A = Text × ℕ} (if has_none ps then map (λ l. (r.name, l)) (tighter_levels r) else []) (r.name, j)
level_of_plain r j i [] e = map_among (λ l. (r.name, l)) (tighter_levels r) j i
level_of_plain r j i (p ∷ ps) e = absurd (true≢false (sym e))

-- what a tighter level is called
level_numbered : (g : Grammar) (f : Text → ℕ → Text) → AreLevelNames g f → (r : Rule) (j : ℕ) → Among (rules_of g.items) r →
    Among (tighter_levels r) j → (k : ℕ) × (f r.name j ≡ with_number (numbered_text r.name j) k)
level_numbered g f a r j i t = go r.parameters refl
  where
    go : (ps : List Text) → r.parameters ≡ ps → (k : ℕ) × (f r.name j ≡ with_number (numbered_text r.name j) k)
    go [] e =
        numbered_as f (map (λ q. q.name) (rules_of g.items)) (plain_levels g) a.plain (r.name, j)
        (flat_map_among plain_levels_of (rules_of g.items) r (r.name, j) i (level_of_plain r j t r.parameters (ap has_none e)))
    go (p ∷ ps) e = macro_numbered g f a r j i (λ none. some_left (sym e ∙ none)) t
      where
        some_left : p ∷ ps ≡ [] → ⊥
        some_left x = cc

free_level : (u : ℕ) (g : Grammar) (f : Text → ℕ → Text) → AreLevelNames g f → (r : Rule) (level : Option ℕ) →
    Among (rules_of g.items) r → HasLevel (rule_between r) level → has_prefix (replicate u 95) r.name ≡ false →
    has_prefix (replicate u 95) (rule_of_key f r level).name ≡ false
free_level u g f a r None i h e = e
free_level u g f a r (Some j) i h e = go (loosest_or_tighter (rule_between r) j h)
  where
    go : (loosest (rule_between r) ≡ Some j) ⊎ Among (tighter_levels r) j → has_prefix (replicate u 95) (f r.name j) ≡ false
    go (inl k) =
        ap (has_prefix (replicate u 95)) (ap (level_name f r.name) (sym k) ∙ a.loosest_kept r i) ∙ e
    go (inr t) =
        let n = level_numbered g f a r j i t in ap (has_prefix (replicate u 95)) n.1 ∙ free_numbered u r.name j n.0 e

-- what begins with a text, has it as its prefix

begins : (p t : Text) → has_prefix p (p ++ t) ≡ true
begins [] t = refl
begins (c ∷ p) t = ap (λ (b : Bool). b && has_prefix p (p ++ t)) (eq-eqb c c refl) ∙ begins p t

-- a name that doesn't begin with the prefix isn't the prefix with text behind it
pub not_begun : (p n t : Text) → has_prefix p n ≡ false → n ≡ p ++ t → ⊥
not_begun p n t e same = true≢false (sym (ap (has_prefix p) same ∙ begins p t) ∙ e)

-- and the other way round
begins_from : (p n : Text) → has_prefix p n ≡ true → (t : Text) × (n ≡ p ++ t)
begins_from [] n h = (n, refl)
begins_from (c ∷ p) [] h = absurd (true≢false (sym h))
begins_from (c ∷ p) (d ∷ n) h =
    let parts = and_parts (c == d) (has_prefix p n) h in
    let u = begins_from p n parts.1 in
    (u.0, ap (λ l. l ∷ n) (sym (eqb-true c d parts.0)) ∙ ap (λ l. c ∷ l) u.1)

-- a name that isn't the prefix with some text behind it, be it none, doesn't begin with the prefix
pub begun_nowhere : (p n : Text) → ((t : Text) → n ≡ p ++ t → ⊥) → has_prefix p n ≡ false
begun_nowhere p n h =
    false_from_ne_true (has_prefix p n) (λ e. let u = begins_from p n e in h u.0 u.1)

-- no name that rules or mapped bare names have there begins with the prefix
module _ (finds : Text → Text → Option Bool) (features : List Text) (w : Grammar) (f : Text → ℕ → Text) (read : IsReadGrammar w)
    (none : StandsNowhere kinds.ReservedPrefix w) (a : AreLevelNames (resolved_grammar (without_disabled features w)) f) where
  level_free : (r : Rule) → Among (rules_of (leveled_grammar f (resolved_grammar (without_disabled features w))).items) r →
      has_prefix w.prefix r.name ≡ false
  level_free r i =
      let u = leveled_source f (resolved_grammar (without_disabled features w)) r i in
      let q = from_read features w u.rule u.among in
      let own : has_prefix (replicate read.underscores 95) u.rule.name ≡ false =
      ap (has_prefix (replicate read.underscores 95)) (sym q.name_is)
      ∙ ap (λ (p : Text). has_prefix p q.rule.name) (sym read.prefix_is)
      ∙ rule_free w none q.rule q.among in
      ap (λ (p : Text). has_prefix p r.name) read.prefix_is
      ∙ subst (λ (e : Rule). has_prefix (replicate read.underscores 95) e.name ≡ false) u.is_it
      (free_level read.underscores (resolved_grammar (without_disabled features w)) f a u.rule u.level u.among u.has_level own)

  pub leveled_free : HasFreePrefix w.prefix
      (grammar_between finds (leveled_grammar f (resolved_grammar (without_disabled features w))))
  leveled_free = record {
    underscores = read.underscores;
    some = let two = read.two in omega (arith, two);
    prefix_is = read.prefix_is;
    rules = λ r t i.
        let q = among_map rule_between (rules_of (leveled_grammar f (resolved_grammar (without_disabled features w))).items) r i in
        not_begun w.prefix r.name t
        (subst (λ (e : EnabledRule). has_prefix w.prefix e.name ≡ false) q.2 (level_free q.0 q.1));
    bares = λ n t i.
        not_begun w.prefix n t
        (bare_free w none n (subst (λ (l : List Text). Among l n)
        (bares_of-leveled f (resolved_grammar (without_disabled features w)).items
        ∙ bares_resolved (defined_names (without_disabled features w)) (without_disabled features w).items
        ∙ bares_left features w.items) i));
  }
