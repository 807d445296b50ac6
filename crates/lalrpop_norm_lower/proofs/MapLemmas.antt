-- The map of nonterminals has just the starts and the rules, with their productions; for lowering.
use Rattle.std.specs.Prelude.{Bool, Option, Some, flat_map, map}
use Rattle.std.proofs.Common.{◌≡◌, ◌≢◌, ◌⊎◌, ◌∙◌, ℕ, ◌+◌, ◌<◌, List, [], ◌∷◌, ◌++◌, refl}
use Rattle.std.proofs.Common.{ap, ap₂, sym, subst, inl, inr, length, arith}
use Rattle.std.proofs.lemmas.List.{map-append}
use Rattle.lalrpop_grammar_symbols.specs.Symbols.{Text}
use Rattle.lalrpop_grammar_symbols.specs.contracts.names.NonterminalStringOrd.TheImpl as names
use Rattle.lalrpop_grammar_symbols.specs.declared.names.NonterminalString.{NonterminalString}
use Rattle.lalrpop_grammar.specs.WrittenGrammar.{Alternative, Grammar, Origin, Rule, rules_of}
use Rattle.lalrpop_grammar_language.specs.Among.{Among}
use Rattle.lalrpop_grammar_language.proofs.PlaceLemmas.{among_map}
use Rattle.lalrpop_grammar_repr.specs.Maps.{at_name}
use Rattle.lalrpop_grammar_repr.specs.declared.production.NonterminalData.{NonterminalData}
use Rattle.lalrpop_grammar_repr.specs.declared.types.Types.{Types}
use Rattle.lalrpop_norm_theory.specs.Between.{grammar_between}
use Rattle.lalrpop_norm_theory.specs.Productions.{AreProductions, NamedProduction}
use Rattle.lalrpop_norm_theory.specs.Rows.{Row, origins_of, productions_from}
use Rattle.lalrpop_grammar_language.proofs.AmongLemmas.{flat_map_among}
use Rattle.lalrpop_grammar_language.proofs.AmongLemmas.{map_among}
use Rattle.lalrpop_grammar_language.proofs.AmongLemmas.{among_flat_map}
use Rattle.lalrpop_grammar_language.proofs.OrderLemmas.{among_parts}
use Rattle.lalrpop_norm_theory.proofs.NumberingLemmas.{numbered_productions}
use Rattle.lalrpop_norm_tyinfer.specs.TypeFaults.{nonterminal_of}
use Rattle.lalrpop_norm_lower.specs.Lowered.{IsLowerable}
use Rattle.lalrpop_norm_lower.specs.LoweredLists.{LoweredNonterminal, LoweredProduction, alternative_productions, gets_start}
use Rattle.lalrpop_norm_lower.specs.LoweredLists.{lowered_entries, lowered_entry_view, lowered_origins, lowered_production_view}
use Rattle.lalrpop_norm_lower.specs.LoweredLists.{rule_entries, entry_of_rule, rule_origins, rules_with_starts, start_entries}
use Rattle.lalrpop_norm_lower.specs.LoweredLists.{entry_of_start, start_origins}
use Rattle.lalrpop_norm_lower.specs.LoweredSymbols.{lowered_name, named_productions, productions_at}
use Rattle.lalrpop_norm_lower.specs.MadeLists.{AreMadeNonterminals, put_names}
use Rattle.lalrpop_norm_lower.specs.NumberOrders.{AreNumberedAlong, names_in_order}
use Rattle.lalrpop_norm_lower.proofs.EarlierLemmas.{Across, Earlier, earlier_apart, earlier_both, earlier_each, earlier_joined}
use Rattle.lalrpop_norm_lower.proofs.EarlierLemmas.{earlier_weaker, flat_earlier}
use Rattle.lalrpop_norm_lower.proofs.EntryLemmas.{made_of_rule, made_of_start}
use Rattle.lalrpop_norm_lower.proofs.ExpansionRowLemmas.{HaveOwnNames, alternative_row, append_same, are_expansion_rows, earlier_kept}
use Rattle.lalrpop_norm_lower.proofs.ExpansionRowLemmas.{lowered_rows, names_apart, rule_rows, start_row}
use Rattle.lalrpop_norm_lower.proofs.NumberedLemmas.{HasLowerAction, IsRegrouped, entry_productions, numbers_rise}
use Rattle.lalrpop_norm_lower.proofs.NumberedLemmas.{regrouped_productions, rows_numbered}
use Rattle.lalrpop_norm_lower.proofs.OrderLemmas.{equal_names}
use Rattle.lalrpop_norm_lower.proofs.PutLemmas.{CanPut, HaveOwnKeys, all_put_among, all_put_length, among_of_all_put, earlier_all_put}
use Rattle.lalrpop_norm_lower.proofs.PutLemmas.{found_among, lookup_put, one_of_key}

-- what stands in a list of images stands where it came from
pub unmapped : {A B : Type 0} (R : B → B → Type 0) (f : A → B) (xs : List A) → Earlier R (map f xs)
    → Earlier (λ x y. R (f x) (f y)) xs
unmapped R f [] h = tt
unmapped R f (x ∷ xs) h = (λ y i. h.0 (f y) (map_among f xs y i), unmapped R f xs h.1)

maps_joined : {A B C : Type 0} (f : A → B) (g : B → C) (xs : List A) → map g (map f xs) ≡ map (λ x. g (f x)) xs
maps_joined f g [] = refl
maps_joined f g (x ∷ xs) = ap (λ l. g (f x) ∷ l) (maps_joined f g xs)

-- the productions of an entry are those of its view
productions_seen : (e : NonterminalString × NonterminalData) → entry_productions (lowered_entry_view e) ≡ productions_at e
productions_seen e = maps_joined lowered_production_view (λ (p : LoweredProduction). p.production) e.1.productions

all_seen : (es : List (NonterminalString × NonterminalData))
    → flat_map entry_productions (map lowered_entry_view es) ≡ flat_map productions_at es
all_seen [] = refl
all_seen (e ∷ es) = ap₂ ◌++◌ (productions_seen e) (all_seen es)

-- the origins of the rows
start_rows_origins : (ss : List Rule) → origins_of (map start_row ss) ≡ start_origins ss
start_rows_origins [] = refl
start_rows_origins (r ∷ ss) = ap (λ l. Origin.start ∷ l) (start_rows_origins ss)

choices_joined : (xs ys : List Row) → origins_of (xs ++ ys) ≡ origins_of xs ++ origins_of ys
choices_joined [] ys = refl
choices_joined (x ∷ xs) ys = ap (λ l. x.0.choice ∷ l) (choices_joined xs ys)

alternative_rows_origins : (n : Text) (as_ : List Alternative) → origins_of (map (alternative_row n) as_) ≡ map (λ a. a.origin) as_
alternative_rows_origins n [] = refl
alternative_rows_origins n (a ∷ as_) = ap (λ l. a.origin ∷ l) (alternative_rows_origins n as_)

rule_rows_origins : (rs : List Rule) → origins_of (flat_map rule_rows rs) ≡ rule_origins rs
rule_rows_origins [] = refl
rule_rows_origins (r ∷ rs) =
    choices_joined (rule_rows r) (flat_map rule_rows rs)
    ∙ ap₂ ◌++◌ (alternative_rows_origins r.name r.alternatives) (rule_rows_origins rs)

pub rows_origins : (rs : List Rule) → origins_of (lowered_rows rs) ≡ lowered_origins rs
rows_origins rs =
    choices_joined (map start_row (rules_with_starts rs)) (flat_map rule_rows rs)
    ∙ ap₂ ◌++◌ (start_rows_origins (rules_with_starts rs)) (rule_rows_origins rs)

-- keys of what is made

abbrev pub HaveKeysApart : LoweredNonterminal → LoweredNonterminal → Type 0
HaveKeysApart v u = v.key ≢ u.key

start_keys : (prefix : Text) (k : ℕ) (ss : List Rule) → Earlier HaveOwnNames ss → Earlier HaveKeysApart (start_entries prefix k ss)
start_keys prefix k [] h = tt
start_keys prefix k (r ∷ ss) h = (
  λ v i e.
      let m = made_of_start prefix (k + 1) ss v i in
      h.0 m.0 m.2 (append_same prefix r.name m.0.name (e ∙ ap (λ (x : LoweredNonterminal). x.key) m.3)),
  start_keys prefix (k + 1) ss h.1,
)

rule_keys : (k : ℕ) (rs : List Rule) → Earlier HaveOwnNames rs → Earlier HaveKeysApart (rule_entries k rs)
rule_keys k [] h = tt
rule_keys k (r ∷ rs) h = (
  λ v i e.
      let m = made_of_rule (k + length r.alternatives) rs v i in h.0 m.0 m.2 (e ∙ ap (λ (x : LoweredNonterminal). x.key) m.3),
  rule_keys (k + length r.alternatives) rs h.1,
)

-- the keys are the names of starts and of rules, in order

start_keys_are : (prefix : Text) (k : ℕ) (ss : List Rule)
    → map (λ (v : LoweredNonterminal). v.key) (start_entries prefix k ss) ≡ map (λ (r : Rule). prefix ++ r.name) ss
start_keys_are prefix k [] = refl
start_keys_are prefix k (r ∷ ss) = ap (λ (l : List Text). (prefix ++ r.name) ∷ l) (start_keys_are prefix (k + 1) ss)

rule_keys_are : (k : ℕ) (rs : List Rule)
    → map (λ (v : LoweredNonterminal). v.key) (rule_entries k rs) ≡ map (λ (r : Rule). r.name) rs
rule_keys_are k [] = refl
rule_keys_are k (r ∷ rs) = ap (λ (l : List Text). r.name ∷ l) (rule_keys_are (k + length r.alternatives) rs)

entry_keys_are : (prefix : Text) (rs : List Rule)
    → map (λ (v : LoweredNonterminal). v.key) (lowered_entries prefix rs) ≡ names_in_order prefix rs
entry_keys_are prefix rs =
    map-append (λ (v : LoweredNonterminal). v.key) (start_entries prefix 0 (rules_with_starts rs))
    (rule_entries (length (rules_with_starts rs)) rs)
    ∙ ap₂ ◌++◌ (start_keys_are prefix 0 (rules_with_starts rs)) (rule_keys_are (length (rules_with_starts rs)) rs)

-- the productions of an entry have its key as their nonterminal

alternatives_named : (n : Text) (k : ℕ) (as_ : List Alternative) (p : NamedProduction)
    → Among (map (λ q. q.production) (alternative_productions n k as_)) p → p.nonterminal ≡ n
alternatives_named n k [] p i = absurd i
alternatives_named n k (a ∷ as_) p (inl e) = sym (ap (λ (q : NamedProduction). q.nonterminal) e)
alternatives_named n k (a ∷ as_) p (inr i) = alternatives_named n (k + 1) as_ p i

start_named : (prefix : Text) (k : ℕ) (r : Rule) (p : NamedProduction) → Among (entry_productions (entry_of_start prefix k r)) p
    → p.nonterminal ≡ prefix ++ r.name
start_named prefix k r p (inl e) = sym (ap (λ (q : NamedProduction). q.nonterminal) e)
start_named prefix k r p (inr i) = absurd i

module _ (w : Grammar) where
  abbrev rs : List Rule
  rs = rules_of w.items

  abbrev made_entries : List LoweredNonterminal
  made_entries = lowered_entries w.prefix rs

  -- an entry is that of a start or of a rule
  pub data IsMadeEntry : LoweredNonterminal → Type 0 where
    of_start : (r : Rule) (k : ℕ) → Among (rules_with_starts rs) r → IsMadeEntry (entry_of_start w.prefix k r)
    of_rule : (r : Rule) (k : ℕ) → Among rs r → IsMadeEntry (entry_of_rule k r)

  pub made_entry : (v : LoweredNonterminal) → Among made_entries v → IsMadeEntry v
  made_entry v i =
      go (among_parts (start_entries w.prefix 0 (rules_with_starts rs)) (rule_entries (length (rules_with_starts rs)) rs) v i)
    where
      go : Among (start_entries w.prefix 0 (rules_with_starts rs)) v ⊎ Among (rule_entries (length (rules_with_starts rs)) rs) v
          → IsMadeEntry v
      go (inl j) =
          let m = made_of_start w.prefix 0 (rules_with_starts rs) v j in subst IsMadeEntry (sym m.3) (IsMadeEntry.of_start m.0 m.1 m.2)
      go (inr j) =
          let m = made_of_rule (length (rules_with_starts rs)) rs v j in subst IsMadeEntry (sym m.3) (IsMadeEntry.of_rule m.0 m.1 m.2)

  entry_named : (v : LoweredNonterminal) → IsMadeEntry v → (p : NamedProduction) → Among (entry_productions v) p
      → p.nonterminal ≡ v.key
  entry_named v (IsMadeEntry.of_start r k i) p j = start_named w.prefix k r p j
  entry_named v (IsMadeEntry.of_rule r k i) p j = alternatives_named r.name k r.alternatives p j

  module _ (apart : Earlier HaveOwnNames rs) (free : (r : Rule) (n : Text) → Among rs r → r.name ≡ w.prefix ++ n → ⊥)
      (made : List (NonterminalString × NonterminalData)) (a : AreMadeNonterminals w made) where
    abbrev es : List (NonterminalString × NonterminalData)
    es = a.entries

    entry_keys : Earlier HaveKeysApart made_entries
    entry_keys =
        earlier_joined HaveKeysApart (start_entries w.prefix 0 (rules_with_starts rs)) (rule_entries (length (rules_with_starts rs)) rs)
        (start_keys w.prefix 0 (rules_with_starts rs) (earlier_kept HaveOwnNames gets_start rs apart))
        (rule_keys (length (rules_with_starts rs)) rs apart)
        (λ v u i j e.
        let m = made_of_start w.prefix 0 (rules_with_starts rs) v i in
        let n = made_of_rule (length (rules_with_starts rs)) rs u j in
        free n.0 m.0.name n.2
        (sym (ap (λ (x : LoweredNonterminal). x.key) n.3) ∙ sym e ∙ ap (λ (x : LoweredNonterminal). x.key) m.3))

    -- what is put in has keys of its own
    pub can_put : CanPut (names.ghosts).cmp equal_names [] es
    can_put = record {
      own = earlier_weaker (λ e d. HaveKeysApart (lowered_entry_view e) (lowered_entry_view d))
          (HaveOwnKeys (names.ghosts).cmp equal_names)
          es (λ e d i j h same. h (ap (λ (n : NonterminalString). n.0) same))
          (unmapped HaveKeysApart lowered_entry_view es (subst (Earlier HaveKeysApart) (sym a.entries_are) entry_keys));
      free = λ e d i. absurd i;
    }

    seen_entry : (e : NonterminalString × NonterminalData) → Among es e → Among made_entries (lowered_entry_view e)
    seen_entry e i = subst (λ l. Among l (lowered_entry_view e)) a.entries_are (map_among lowered_entry_view es e i)

    -- an entry of the map is one that was made
    pub entry_made : (e : NonterminalString × NonterminalData) → Among made e → IsMadeEntry (lowered_entry_view e)
    entry_made e i =
        go (among_of_all_put (names.ghosts).cmp equal_names [] es can_put e (subst (λ l. Among l e) a.put_in i))
      where
        go : Among [] e ⊎ Among es e → IsMadeEntry (lowered_entry_view e)
        go (inl j) = absurd j
        go (inr j) = made_entry (lowered_entry_view e) (seen_entry e j)

    -- what was made stands in the map, at its key
    pub record IsAtKey (v : LoweredNonterminal) : Type 0 where
      pub data_ : NonterminalData
      pub found : at_name (nonterminal_of v.key) made ≡ Some data_
      pub view_is : lowered_entry_view (nonterminal_of v.key, data_) ≡ v

    pub made_found : (v : LoweredNonterminal) → Among made_entries v → IsAtKey v
    made_found v i =
        let m = among_map lowered_entry_view es v (subst (λ l. Among l v) (sym a.entries_are) i) in
        let key : m.0.0 ≡ nonterminal_of v.key = ap (λ (x : LoweredNonterminal). nonterminal_of x.key) m.2 in
        record {
          data_ = m.0.1;
          found = subst (λ n. at_name n made ≡ Some m.0.1) key
              (ap (at_name m.0.0) a.put_in ∙ lookup_put (names.ghosts).cmp equal_names [] es can_put.own m.0 m.1);
          view_is = subst (λ n. lowered_entry_view (n, m.0.1) ≡ v) key m.2;
        }

    -- what is found in the map was made
    pub found_made : (n : NonterminalString) (d : NonterminalData) → at_name n made ≡ Some d → IsMadeEntry (lowered_entry_view (n, d))
    found_made n d e = entry_made (n, d) (found_among (names.ghosts).cmp equal_names made n d e)

    -- the productions, regrouped

    production_named : (e : NonterminalString × NonterminalData) → Among es e → (p : NamedProduction) → Among (productions_at e) p
        → p.nonterminal ≡ e.0.0
    production_named e i p j =
        entry_named (lowered_entry_view e) (made_entry (lowered_entry_view e) (seen_entry e i)) p
        (subst (λ l. Among l p) (sym (productions_seen e)) j)

    abbrev Ordered : NamedProduction → NamedProduction → Type 0
    Ordered p q = (p.action ≢ q.action) × (p.nonterminal ≡ q.nonterminal → p.action < q.action)

    abbrev Unlike : NamedProduction → NamedProduction → Type 0
    Unlike p q = (p.action ≢ q.action) × (p.nonterminal ≢ q.nonterminal)

    abbrev HaveUnlike : NonterminalString × NonterminalData → NonterminalString × NonterminalData → Type 0
    HaveUnlike e d = Across Unlike (productions_at e) (productions_at d)

    below_differs : (m n : ℕ) → m < n → m ≢ n
    below_differs m n less e = omega (arith, less, e)

    module _ (rising : Earlier HasLowerAction (flat_map productions_at es)) where
      unlike_entries : Earlier HaveUnlike es
      unlike_entries =
          earlier_weaker
          (λ e d. Across HasLowerAction (productions_at e) (productions_at d) × HaveOwnKeys (names.ghosts).cmp equal_names e d)
          HaveUnlike es
          (λ e d i j h p q k l. (
            below_differs p.action q.action (h.0 p q k l),
            λ same. h.1 (ap nonterminal_of (sym (production_named e i p k) ∙ same ∙ production_named d j q l)),
          ))
          (earlier_both (λ e d. Across HasLowerAction (productions_at e) (productions_at d)) (HaveOwnKeys (names.ghosts).cmp equal_names)
          es (earlier_apart HasLowerAction productions_at es rising) can_put.own)

      turned : (e d : NonterminalString × NonterminalData) → HaveUnlike e d → HaveUnlike d e
      turned e d h p q i j = let u = h q p j i in (λ same. u.0 (sym same), λ same. u.1 (sym same))

      entries_of_map : (e : NonterminalString × NonterminalData) → Among (put_names [] es) e → Among es e
      entries_of_map e i = go (among_of_all_put (names.ghosts).cmp equal_names [] es can_put e i)
        where
          go : Among [] e ⊎ Among es e → Among es e
          go (inl j) = absurd j
          go (inr j) = j

      ordered_entry : (e : NonterminalString × NonterminalData) → Among (put_names [] es) e → Earlier Ordered (productions_at e)
      ordered_entry e i =
          earlier_weaker HasLowerAction Ordered (productions_at e)
          (λ p q j k less. (below_differs p.action q.action less, λ same. less))
          (earlier_each HasLowerAction productions_at es rising e (entries_of_map e i))

      ordered_map : Earlier Ordered (named_productions (put_names [] es))
      ordered_map =
          flat_earlier Ordered productions_at (put_names [] es) ordered_entry
          (earlier_weaker HaveUnlike (λ e d. Across Ordered (productions_at e) (productions_at d)) (put_names [] es)
          (λ e d i j h p q k l. let u = h p q k l in (u.0, λ same. absurd (u.1 same)))
          (earlier_all_put (names.ghosts).cmp equal_names HaveUnlike turned [] es can_put tt unlike_entries
          (λ e d i. absurd i)))

      pub regrouped : IsRegrouped (flat_map productions_at es) (named_productions made)
      regrouped = subst (λ l. IsRegrouped (flat_map productions_at es) (named_productions l)) (sym a.put_in) (record {
        there = λ p i.
            let m = among_flat_map productions_at es p i in
            flat_map_among productions_at (put_names [] es) m.0 p
            (all_put_among (names.ghosts).cmp equal_names [] es can_put m.0 (inr m.1)) m.2;
        no_other = λ p i.
            let m = among_flat_map productions_at (put_names [] es) p i in
            flat_map_among productions_at es m.0 p (entries_of_map m.0 m.1) m.2;
        as_many = let many = all_put_length (names.ghosts).cmp equal_names productions_at [] es can_put in omega (arith, many);
        apart = ordered_map;
      })

      -- a production of the map is one of the entry of its name
      own_production : (e : NonterminalString × NonterminalData) → Among es e → (p : NamedProduction)
          → Among (named_productions (put_names [] es)) p → p.nonterminal ≡ e.0.0 → Among (productions_at e) p
      own_production e i p j same =
          let m = among_flat_map productions_at (put_names [] es) p j in
          let there = entries_of_map m.0 m.1 in
          let key : m.0.0 ≡ e.0 = ap nonterminal_of (sym (production_named m.0 there p m.2) ∙ same) in
          subst (λ (x : NonterminalString × NonterminalData). Among (productions_at x) p)
          (one_of_key (names.ghosts).cmp equal_names es can_put.own m.0 e there i key) m.2

      numbered_part : (ds : List (NonterminalString × NonterminalData))
          → ((d : NonterminalString × NonterminalData) → Among ds d → Among es d)
          → Earlier (λ e d. Across HasLowerAction (productions_at e) (productions_at d)) ds
          → AreNumberedAlong (map (λ (d : NonterminalString × NonterminalData). d.0.0) ds) (named_productions (put_names [] es))
      numbered_part [] part h = tt
      numbered_part (d ∷ ds) part h = (
        λ p q i j own later.
            let at = among_map (λ (x : NonterminalString × NonterminalData). x.0.0) ds q.nonterminal later in
            h.0 at.0 at.1 p q (own_production d (part d (inl refl)) p i own)
            (own_production at.0 (part at.0 (inr at.1)) q j (sym at.2)),
        numbered_part ds (λ x k. part x (inr k)) h.1,
      )

      -- the productions of the map are numbered along what was put in
      pub numbered_entries : AreNumberedAlong (map (λ (d : NonterminalString × NonterminalData). d.0.0) es) (named_productions made)
      numbered_entries =
          subst (λ l. AreNumberedAlong (map (λ (d : NonterminalString × NonterminalData). d.0.0) es) (named_productions l))
          (sym a.put_in) (numbered_part es (λ d i. i) (earlier_apart HasLowerAction productions_at es rising))

-- the actions of what was put in rise
rising_actions : (w : Grammar) (made : List (NonterminalString × NonterminalData)) (a : AreMadeNonterminals w made)
    → Earlier HasLowerAction (flat_map productions_at a.entries)
rising_actions w made a =
    let rs = rules_of w.items in
    let f = lowered_name w.prefix in
    let same : productions_from f 0 (lowered_rows rs) ≡ flat_map productions_at a.entries =
    rows_numbered w.prefix rs ∙ ap (flat_map entry_productions) (sym a.entries_are) ∙ all_seen a.entries in
    subst (Earlier HasLowerAction) same (numbers_rise f 0 (lowered_rows rs))

-- the productions of the map are numbered along the starts and the rules
pub lowered_numbers : (finds : Text → Text → Option Bool) (w : Grammar) (types : Types) → IsLowerable finds w types
    → (made : List (NonterminalString × NonterminalData)) (a : AreMadeNonterminals w made)
    → AreNumberedAlong (names_in_order w.prefix (rules_of w.items)) (named_productions made)
lowered_numbers finds w types l made a =
    let rs = rules_of w.items in
    let names_are : map (λ (d : NonterminalString × NonterminalData). d.0.0) a.entries ≡ names_in_order w.prefix rs =
    sym (maps_joined lowered_entry_view (λ (v : LoweredNonterminal). v.key) a.entries)
    ∙ ap (map (λ (v : LoweredNonterminal). v.key)) a.entries_are ∙ entry_keys_are w.prefix rs in
    subst (λ (ns : List Text). AreNumberedAlong ns (named_productions made)) names_are
    (numbered_entries w (names_apart finds w l.expanded l.ordered l.free_prefix) l.free_prefix made a (rising_actions w made a))

-- the productions of the map are those of the expansion
pub lowered_productions : (finds : Text → Text → Option Bool) (w : Grammar) (types : Types) → IsLowerable finds w types
    → (made : List (NonterminalString × NonterminalData)) (a : AreMadeNonterminals w made) (origins : List Origin)
    → origins ≡ lowered_origins (rules_of w.items)
    → AreProductions (grammar_between finds w) (lowered_name w.prefix) (named_productions made) origins
lowered_productions finds w types l made a origins e =
    let rs = rules_of w.items in
    let f = lowered_name w.prefix in
    let apart = names_apart finds w l.expanded l.ordered l.free_prefix in
    let rows = lowered_rows rs in
    let same : productions_from f 0 rows ≡ flat_map productions_at a.entries =
    rows_numbered w.prefix rs ∙ ap (flat_map entry_productions) (sym a.entries_are) ∙ all_seen a.entries in
    let numbered : AreProductions (grammar_between finds w) f (flat_map productions_at a.entries) origins =
    subst (λ ps. AreProductions (grammar_between finds w) f ps origins) same
    (subst (AreProductions (grammar_between finds w) f (productions_from f 0 rows)) (rows_origins rs ∙ sym e)
    (numbered_productions (grammar_between finds w) f rows
    (are_expansion_rows finds w l.expanded l.ordered l.free_prefix))) in
    regrouped_productions (grammar_between finds w) f origins (flat_map productions_at a.entries) (named_productions made) numbered
    (regrouped w apart l.free_prefix made a (subst (Earlier HasLowerAction) same (numbers_rise f 0 rows)))
