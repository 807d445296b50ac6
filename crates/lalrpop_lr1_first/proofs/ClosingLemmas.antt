-- The slots after the flow give just what is marked from the seed: for the closure of a seed.
use Rattle.std.proofs.Common.{◌≡◌, ◌∙◌, ◌↔◌, ◌⊎◌, ℕ, ◌+◌, ◌<◌, ◌≤◌, Bool, true, false, not}
use Rattle.std.proofs.Common.{◌||◌, ◌&&◌, eqb, List, [], ◌∷◌, length, get_or}
use Rattle.std.proofs.Common.{refl, sym, ap, subst, arith, inl, inr, ⊎_elim, slice_get, Option, Some, None, Contains}
use Rattle.std.specs.List.{cons_option}
use Rattle.std.specs.Prelude.{filter_map, option_map}
use Rattle.std.proofs.lemmas.List.Elements.{Contains-append_cases, Contains-append_left, Contains-append_right}
use Rattle.lalrpop_lr1_theory.specs.Productions as theory
use Rattle.lalrpop_lr1_theory.proofs.ListLemmas.{contains_get, contains_here, contains_later, contains_split, get_contains}
use Rattle.lalrpop_lr1_core.specs.Views.{next_of_number}
use Rattle.lalrpop_lr1_core.proofs.NoConflictLemmas.{at_mapped}
use Rattle.lalrpop_sets.specs.AscendingLists.{has}
use Rattle.lalrpop_lr1_first.specs.ClosureTables.{AreItems, ClosesSeed, HoldTokens, IsClosureTable, SeedsAll, TableMarks}
use Rattle.lalrpop_lr1_first.specs.ClosureTables.{edge_of_rule, name_behind}
use Rattle.lalrpop_lr1_first.specs.ClosureTables.{rule_edge_to, started_items, started_with}
use Rattle.lalrpop_lr1_first.specs.FirstNumbers.{name_count, table_end, table_rules}
use Rattle.lalrpop_lr1_first.specs.FlowEdges.{RestsAreWithin, edge_seen, edges_seen}
use Rattle.lalrpop_lr1_first.specs.Flows.{EdgesAreWithin, FlowEdge, Flows, IsEdgeWithin, MarksAreWithin, all_marks, begins}
use Rattle.lalrpop_lr1_first.specs.Flows.{brings, comes, passes, slot_marks, starts}
use Rattle.lalrpop_lr1_first.specs.ItemTables.{AreEdgesOf, AreFirstsOf, FlowsToStart, HasMark, HasPlace, IsEdgeOf}
use Rattle.lalrpop_lr1_first.specs.NumberedGrammars.{HasItemAt, IsSeenIn, table_names, table_productions}
use Rattle.lalrpop_lr1_first.specs.Numbers.{RuleByNumbers, says, set_of_number}
use Rattle.lalrpop_lr1_first.specs.Tables.{rest_of, symbol_of_number}
use Rattle.lalrpop_lr1_first.specs.declared.closure.Closures.{Closures}
use Rattle.lalrpop_lr1_first.specs.declared.flowing.Edge.{Edge}
use Rattle.lalrpop_lr1_first.specs.declared.place.NumberedRule.{NumberedRule}
use Rattle.lalrpop_lr1_first.proofs.ClosureLemmas.{mark_at, mark_is_marked, place_is_marked, place_of}
use Rattle.lalrpop_lr1_first.proofs.FirstNumberLemmas.{first_number, says_first}
use Rattle.lalrpop_lr1_first.proofs.FlowLemmas.{at_all_marks}
use Rattle.lalrpop_lr1_core.proofs.GraphLemmas.{flat_has}
use Rattle.lalrpop_lr1_first.proofs.ListLemmas.{or_cases, or_left, or_right}
use Rattle.lalrpop_grammar_symbols.proofs.BoolLemmas.{and_both}
use Rattle.lalrpop_sets.proofs.AscendingListLemmas.{eqb_not}
use Rattle.lalrpop_sets.proofs.AscendingListLemmas.{eqb_self}
use Rattle.lalrpop_lr1_first.proofs.SeedLemmas.{name_is, name_there, rest_within}
use Rattle.lalrpop_lr1_first.proofs.SweepLemmas.{says_within}
use Rattle.lalrpop_lr1_first.proofs.TableLemmas.{get_mapped, is_item_table, left_below, rules_are, table_numbering}
use Rattle.lalrpop_lr1_theory.proofs.NameLemmas.{no_element}
use Rattle.lalrpop_lr1_core.proofs.GraphLemmas.{in_flat}

in_filter_map : {X Y : Type 0} (f : X → Option Y) (xs : List X) (y : Y) → Contains (filter_map f xs) y →
    (x : X) × Contains xs x × (f x ≡ Some y)
in_filter_map f [] y c = absurd (no_element y c)
in_filter_map {X} {Y} f (x ∷ xs) y c = go (f x) refl (in_filter_map f xs y) c
  where
    later : (z : X) × Contains xs z × (f z ≡ Some y) → (z : X) × Contains (x ∷ xs) z × (f z ≡ Some y)
    later r = (r.0, contains_later x r.0 xs r.1, r.2)

    go : (o : Option Y) → f x ≡ o → (Contains (filter_map f xs) y → (z : X) × Contains xs z × (f z ≡ Some y)) →
        Contains (cons_option o (filter_map f xs)) y → (z : X) × Contains (x ∷ xs) z × (f z ≡ Some y)
    go None e rec d = later (rec d)
    go (Some w) e rec d =
        ⊎_elim (λ z. (x, contains_here x xs, e ∙ ap Some z)) (λ z. later (rec z)) (contains_split w y (filter_map f xs) d)

filter_map_has : {X Y : Type 0} (f : X → Option Y) (xs : List X) (x : X) (y : Y) → Contains xs x → f x ≡ Some y →
    Contains (filter_map f xs) y
filter_map_has f [] x y c e = absurd (no_element x c)
filter_map_has {X} {Y} f (z ∷ xs) x y c e = go (f z) refl (filter_map_has f xs x y) (contains_split z x xs c)
  where
    go : (o : Option Y) → f z ≡ o → (Contains xs x → f x ≡ Some y → Contains (filter_map f xs) y) →
        (z ≡ x) ⊎ Contains xs x →
        Contains (cons_option o (filter_map f xs)) y
    go None g rec (inl h) = let both : None ≡ Some y = sym g ∙ ap f h ∙ e in let w : ⊥ = cc in absurd w
    go None g rec (inr h) = rec h e
    go (Some w) g rec (inl h) =
        let both : Some w ≡ Some y = sym g ∙ ap f h ∙ e in let one : w ≡ y = cc in
        subst (Contains (w ∷ filter_map f xs)) one (contains_here w (filter_map f xs))
    go (Some w) g rec (inr h) = contains_later w y (filter_map f xs) (rec h e)

-- what comes is a number of a token
pub comes_small : (firsts : Bool) (end : ℕ) (first own : List ℕ) (k : ℕ) → (has first k ≡ true → k ≤ end) →
    (has own k ≡ true → k ≤ end + 1) →
    comes firsts end first own k ≡ true → k < end + 2
comes_small firsts end first own k f o h = ⊎_elim
    (λ z. let l = f (and_both (not (eqb k end)) (has first k) (and_both firsts (not (eqb k end) && has first k) z).1).1 in omega arith)
    (λ z. let l = o (and_both (has first end) (has own k) z).1 in omega arith)
    (or_cases (firsts && (not (eqb k end) && has first k)) (has first end && has own k) h)

module _ (closures : Closures) (is : IsClosureTable closures) where
  abbrev rests : List (List ℕ)
  rests = closures.firsts.items

  abbrev rest : ℕ → List ℕ
  rest = rest_of closures.numbered.places.items

  abbrev end : ℕ
  end = table_end closures.numbered

  abbrev names : ℕ
  names = name_count closures.numbered

  abbrev symbol_at : ℕ → Option theory.Symbol
  symbol_at = symbol_of_number (table_names closures.numbered) closures.numbered.terminals.now

  abbrev next_at : ℕ → theory.Next
  next_at = next_of_number closures.numbered.terminals.now

  abbrev G : theory.Production → Type 0
  G = IsSeenIn (table_productions closures.numbered)

  abbrev seen : List FlowEdge
  seen = edges_seen closures.firsts.items closures.edges.items

  sets_close : (r : ℕ) (rule : RuleByNumbers) (k : ℕ) → slice_get (table_rules closures.numbered) r ≡ Some rule →
      says is.firsts_are.sets end rule.right k ≡ true → has (set_of_number is.firsts_are.sets rule.left) k ≡ true
  sets_close r rule k e = is.firsts_are.symbol_firsts.closed r rule k e

  -- at each place stands a set of tokens
  pub place_within : (i : ℕ) → i ≤ length closures.numbered.places.items →
      (k : ℕ) → has (set_of_number rests i) k ≡ true → k ≤ end
  place_within i l k h = says_within end is.firsts_are.sets is.firsts_are.symbol_firsts.sets_are.within (rest i) k
      (sym (is.firsts_are.place_firsts.at i l k) ∙ h)

  inside : (i s : ℕ) (more : List ℕ) → rest i ≡ s ∷ more → i + 1 ≤ length closures.numbered.places.items
  inside i s more e = omega (arith, rest_within closures.numbered.places.items i s more e)

  firsts_of : AreFirstsOf G symbol_at next_at end rest (set_of_number rests)
  firsts_of = record {
    within = λ i s more e k h. place_within (i + 1) (inside i s more e) k h;
    exact = λ i s more e ys sp k l.
        let x = says_first symbol_at next_at end names (table_numbering closures.numbered is.numbers) is.firsts_are.sets
        is.firsts_are.symbol_firsts.sets_are.terminals G (table_rules closures.numbered) (rules_are closures.numbered is.numbers)
        sets_close
        is.firsts_are.symbol_firsts.sound (rest (i + 1)) ys sp k l in
        let same = is.firsts_are.place_firsts.at (i + 1) (inside i s more e) k in
        (λ h. x.0 (sym same ∙ h), λ h. same ∙ x.1 h);
    has_number = λ i s more e ys sp x h. first_number symbol_at next_at end names (table_numbering closures.numbered is.numbers)
        is.firsts_are.sets
        is.firsts_are.symbol_firsts.sets_are.terminals G (table_rules closures.numbered) (rules_are closures.numbered is.numbers)
        sets_close
        (rest (i + 1)) ys sp x h;
  }

  -- the parts of an edge
  edge_parts : (x : Edge) → Contains closures.edges.items x → (rule : NumberedRule) × (s : ℕ) × (more : List ℕ) ×
      Contains closures.numbered.rules.items rule × (rest rule.start ≡ s ∷ more) × (s < names) × (x ≡ rule_edge_to rule s)
  edge_parts x c =
      let m = in_filter_map (edge_of_rule closures.numbered) closures.numbered.rules.items x (subst (λ l. Contains l x) is.edges_are c)
      in
      go m.0 m.1 (name_behind closures.numbered m.0.start) refl m.2
    where
      go : (rule : NumberedRule) → Contains closures.numbered.rules.items rule →
          (o : Option ℕ) → name_behind closures.numbered rule.start ≡ o →
          option_map (rule_edge_to rule) o ≡ Some x → (rule : NumberedRule) × (s : ℕ) × (more : List ℕ) ×
          Contains closures.numbered.rules.items rule × (rest rule.start ≡ s ∷ more) × (s < names) × (x ≡ rule_edge_to rule s)
      go rule listed None e f = let w : ⊥ = cc in absurd w
      go rule listed (Some s) e f =
          let n = name_is names (rest rule.start) s e in
          let same : rule_edge_to rule s ≡ x = cc in
          (rule, s, n.0, listed, n.1, n.2, sym same)

  edges_of : AreEdgesOf names rest (set_of_number rests) closures.numbered.rules.items seen
  edges_of = record {
    sound = λ r e at.
        let m = at_mapped (edge_seen rests) closures.edges.items r e at in
        let p = edge_parts m.0 (get_contains closures.edges.items r m.0 m.1) in (
          p.0,
          p.3,
          subst (λ (y : FlowEdge). IsEdgeOf names rest (set_of_number rests) p.0 y) (ap (edge_seen rests) (sym p.6) ∙ m.2)
              (record { more = p.2; rest = p.4; name = p.5; from = refl; first = refl }),
        );
    all = λ rule s more listed e l.
        let f : edge_of_rule closures.numbered rule ≡ Some (rule_edge_to rule s) =
        ap (option_map (rule_edge_to rule)) (name_there names (rest rule.start) s more e l) in
        let c = subst (λ es. Contains es (rule_edge_to rule s)) (sym is.edges_are)
        (filter_map_has (edge_of_rule closures.numbered) closures.numbered.rules.items rule (rule_edge_to rule s) listed f) in
        let k = contains_get closures.edges.items (rule_edge_to rule s) c in (
          k.0,
          edge_seen rests (rule_edge_to rule s),
          get_mapped (edge_seen rests) closures.edges.items k.0 (rule_edge_to rule s) k.1,
          refl,
          record { more = more; rest = e; name = l; from = refl; first = refl },
        );
  }

  pub edge_rests : RestsAreWithin (length rests) closures.edges.items
  edge_rests r x e =
      let p = edge_parts x (get_contains closures.edges.items r x e) in
      let l = inside p.0.start p.1 p.2 p.4 in
      let same : x.rest ≡ p.0.start + 1 = ap (λ (y : Edge). y.rest) p.6 in
      omega (arith, l, same, is.firsts_are.place_firsts.count)

  pub edges_within : EdgesAreWithin end names seen
  edges_within r e at =
      let m = at_mapped (edge_seen rests) closures.edges.items r e at in
      let p = edge_parts m.0 (get_contains closures.edges.items r m.0 m.1) in
      let k = contains_get closures.numbered.rules.items p.0 p.3 in
      subst (λ (y : FlowEdge). IsEdgeWithin end names y) (ap (edge_seen rests) (sym p.6) ∙ m.2)
      (record {
        from = left_below closures.numbered is.numbers k.0 p.0 k.1;
        to = p.5;
        first = λ j h. place_within (p.0.start + 1) (inside p.0.start p.1 p.2 p.4) j h;
      })

  module _ {L : Type 0} (marks : L → List ℕ) (firsts : Bool) (seed : List (ℕ × L)) (items : AreItems closures.numbered seed)
      (seeded after : List (Option L)) (seeds : SeedsAll marks firsts closures.numbered rests seed seeded)
      (flows : (s k : ℕ) → (has (set_of_number (all_marks marks (end + 2) after) s) k ≡ true)
      ↔ Flows firsts end seen (all_marks marks (end + 2) seeded) s k)
      (brought : List (ℕ × L)) (are : brought ≡ started_items after closures.numbered.rules.items) where
    abbrev Item : ℕ → theory.Production → ℕ → Type 0
    Item = HasItemAt closures.numbered

    abbrev F : ℕ → ℕ → Type 0
    F = Flows firsts end seen (all_marks marks (end + 2) seeded)

    part : (i : ℕ) (l : L) → Contains brought (i, l) → (rule : NumberedRule) × Contains closures.numbered.rules.items rule
        × (rule.start ≡ i) ×
        (get_or after rule.left None ≡ Some l)
    part i l c =
        let m = in_flat (λ (r : NumberedRule). started_with r.start (get_or after r.left None)) closures.numbered.rules.items (i, l)
        (subst (λ es. Contains es (i, l)) are c) in
        go m.0 m.1 (get_or after m.0.left None) refl m.2
      where
        go : (rule : NumberedRule) → Contains closures.numbered.rules.items rule →
            (o : Option L) → get_or after rule.left None ≡ o →
            Contains (started_with rule.start o) (i, l) → (rule : NumberedRule) × Contains closures.numbered.rules.items rule
            × (rule.start ≡ i) ×
            (get_or after rule.left None ≡ Some l)
        go rule listed None e d = absurd (no_element (i, l) d)
        go rule listed (Some l') e d =
            let one : (rule.start, l') ≡ (i, l) = ⊎_elim (λ z. z) (λ z. absurd (no_element (i, l) z)) (contains_split (
              rule.start,
              l',
            ) (i, l) [] d) in
            (rule, listed, ap (λ (x : ℕ × L). x.0) one, e ∙ ap (λ (x : ℕ × L). Some x.1) one)

    whole : (rule : NumberedRule) (l : L) → Contains closures.numbered.rules.items rule → get_or after rule.left None ≡ Some l →
        Contains brought (rule.start, l)
    whole rule l listed e = subst (λ es. Contains es (rule.start, l)) (sym are)
        (flat_has (λ (r : NumberedRule). started_with r.start (get_or after r.left None)) closures.numbered.rules.items rule (
          rule.start,
          l,
        ) listed
        (subst (λ o. Contains (started_with rule.start o) (rule.start, l)) (sym e) (contains_here (rule.start, l) [])))

    has_slot : (s k : ℕ) (l : L) → get_or after s None ≡ Some l → (eqb (end + 2) k || has (marks l) k) ≡ true → F s k
    has_slot s k l e h = (flows s k).0 (ap (λ t. has t k) (at_all_marks marks (end + 2) after s ∙ ap (slot_marks marks (end + 2)) e)
        ∙ h)

    slot_has : (s k : ℕ) → F s k → (l : L) × (get_or after s None ≡ Some l) × ((eqb (end + 2) k || has (marks l) k) ≡ true)
    slot_has s k f = go (get_or after s None) refl
        (ap (λ t. has t k) (sym (at_all_marks marks (end + 2) after s)) ∙ (flows s k).1 f)
      where
        go : (o : Option L) → get_or after s None ≡ o → has (slot_marks marks (end + 2) (get_or after s None)) k ≡ true →
            (l : L) × (get_or after s None ≡ Some l) × ((eqb (end + 2) k || has (marks l) k) ≡ true)
        go None e h = let z : false ≡ true = sym (ap (λ o. has (slot_marks marks (end + 2) o) k) e) ∙ h in let w : ⊥ = cc in
            absurd w
        go (Some l) e h = (l, e, sym (ap (λ o. has (slot_marks marks (end + 2) o) k) e) ∙ h)

    seed_items : (i : ℕ) (l : L) → Contains seed (i, l) → (p : theory.Production) × (d : ℕ) × Item i p d
    seed_items i l c = items i (l, c)

    abbrev Start : ℕ → ℕ → Type 0
    Start = FlowsToStart firsts end closures.numbered.rules.items seen (all_marks marks (end + 2) seeded)

    start_brought : (i k : ℕ) → Start i k → (l : L) × Contains brought (i, l) × ((eqb (end + 2) k || has (marks l) k) ≡ true)
    start_brought i k f =
        let h = slot_has f.0.left k f.3 in (h.0, subst (λ j. Contains brought (j, h.0)) f.2 (whole f.0 h.0 f.1 h.1), h.2)

    place_marked : (i : ℕ) (p : theory.Production) (d : ℕ) → HasPlace seed i ⊎ Start i (end + 2) → Item i p d →
        TableMarks marks firsts closures.numbered seed p d None
    place_marked = place_is_marked marks firsts G symbol_at next_at end names (table_numbering closures.numbered is.numbers) Item rest
        (set_of_number rests)
        closures.numbered.rules.items (is_item_table closures.numbered is.numbers) firsts_of seen edges_of seed (all_marks marks
        (end + 2) seeded)
        seeds.brought seed_items

    mark_marked : (i k : ℕ) (p : theory.Production) (d : ℕ) (x : theory.Next) → HasMark marks seed i k ⊎ Start i k →
        k ≤ end → next_at k ≡ x →
        Item i p d → TableMarks marks firsts closures.numbered seed p d (Some x)
    mark_marked = mark_is_marked marks firsts G symbol_at next_at end names (table_numbering closures.numbered is.numbers) Item rest
        (set_of_number rests)
        closures.numbered.rules.items (is_item_table closures.numbered is.numbers) firsts_of seen edges_of seed (all_marks marks
        (end + 2) seeded)
        seeds.brought seed_items

    marked_place : (p : theory.Production) (d : ℕ) → TableMarks marks firsts closures.numbered seed p d None →
        (i : ℕ) × Item i p d × (HasPlace seed i ⊎ Start i (end + 2))
    marked_place p d m = place_of marks firsts G symbol_at next_at end names (table_numbering closures.numbered is.numbers) Item rest
        (set_of_number rests)
        closures.numbered.rules.items (is_item_table closures.numbered is.numbers) firsts_of seen edges_of seed (all_marks marks
        (end + 2) seeded)
        seeds.brought seed_items None m

    marked_mark : (p : theory.Production) (d : ℕ) (x : theory.Next) → TableMarks marks firsts closures.numbered seed p d (Some x) →
        (i k : ℕ) × Item i p d × (k ≤ end) × (next_at k ≡ x) × (HasMark marks seed i k ⊎ Start i k)
    marked_mark p d x m = mark_at marks firsts G symbol_at next_at end names (table_numbering closures.numbered is.numbers) Item rest
        (set_of_number rests)
        closures.numbered.rules.items (is_item_table closures.numbered is.numbers) firsts_of seen edges_of seed (all_marks marks
        (end + 2) seeded)
        seeds.brought seed_items (Some x) x m refl

    -- the seed with what was brought is just what is marked from it
    pub closes : ClosesSeed marks firsts closures.numbered seed brought
    closes = record {
      items = λ p d. (
        λ h. place_marked h.0 p d (⊎_elim (λ c. inl (h.1.0, c))
            (λ c. let r = part h.0 h.1.0 c in
            inr (
              r.0,
              r.1,
              r.2,
              has_slot r.0.left (end + 2) h.1.0 r.3 (or_left (eqb (end + 2) (end + 2)) (has (marks h.1.0) (end + 2))
                  (eqb_self (end + 2))),
            ))
            (Contains-append_cases seed brought (h.0, h.1.0) h.1.1)) h.2,
        λ m. let r = marked_place p d m in ⊎_elim
            (λ z. (r.0, (z.0, Contains-append_left seed brought (r.0, z.0) z.1), r.1))
            (λ z. let b = start_brought r.0 (end + 2) z in (r.0, (b.0, Contains-append_right seed brought (r.0, b.0) b.1), r.1)) r.2,
      );
      nexts = λ p d x. (
        λ h. mark_marked h.place h.number p d x (⊎_elim (λ c. inl (h.held.0, c, h.held.2))
            (λ c. let r = part h.place h.held.0 c in
            inr (
              r.0,
              r.1,
              r.2,
              has_slot r.0.left h.number h.held.0 r.3 (or_right (eqb (end + 2) h.number) (has (marks h.held.0) h.number)
                  h.held.2),
            ))
            (Contains-append_cases seed brought (h.place, h.held.0) h.held.1)) h.small h.next_is h.item,
        λ m. let r = marked_mark p d x m in ⊎_elim
            (λ z. record {
              place = r.0;
              number = r.1;
              held = (z.0, Contains-append_left seed brought (r.0, z.0) z.1, z.2);
              small = r.3;
              next_is = r.4;
              item = r.2;
            })
            (λ z. let b = start_brought r.0 r.1 z in
            record {
              place = r.0;
              number = r.1;
              held = (b.0, Contains-append_right seed brought (r.0, b.0) b.1, past r.1 r.3 b.0 b.2);
              small = r.3;
              next_is = r.4;
              item = r.2;
            }) r.5,
      );
    }
      where
        past : (k : ℕ) → k ≤ end → (l : L) → (eqb (end + 2) k || has (marks l) k) ≡ true → has (marks l) k ≡ true
        past k small l h = ap (λ b. b || has (marks l) k) (sym (eqb_not (end + 2) k (λ e. omega arith))) ∙ h

    -- each place that was brought is an item's
    pub brought_items : AreItems closures.numbered brought
    brought_items i c =
        let r = part i c.0 c.1 in
        let s = (is_item_table closures.numbered is.numbers).rule r.0 r.1 in
        (s.0, 0, subst (λ j. Item j s.0 0) r.2 s.1.item)

    module _ (tokens : HoldTokens marks end seed) (within : MarksAreWithin marks end after) where
      -- what the seed brings to a slot is that something is there, or a token
      seed_small : (s k : ℕ) → has (set_of_number (all_marks marks (end + 2) seeded) s) k ≡ true → (k ≡ end + 2) ⊎ (k ≤ end)
      seed_small s k h =
          let b = (seeds.brought s k).0 h in
          ⊎_elim (λ e. inl e)
          (λ c. inr (⊎_elim
          (λ z. place_within (b.place + 1) (inside b.place s b.more b.rest) k
          (and_both (not (eqb k end)) (has (set_of_number rests (b.place + 1)) k)
          (and_both firsts (not (eqb k end) && has (set_of_number rests (b.place + 1)) k) z).1).1)
          (λ z. tokens b.place k (
            b.lookahead,
            b.held,
            (and_both (has (set_of_number rests (b.place + 1)) end)
                (has (marks b.lookahead) k) z).1,
          ))
          (or_cases (firsts && (not (eqb k end) && has (set_of_number rests (b.place + 1)) k))
          (has (set_of_number rests (b.place + 1)) end && has (marks b.lookahead) k) c))) b.mark

      flow_small : {s k : ℕ} → F s k → (k ≡ end + 2) ⊎ (k ≤ end)
      flow_small (begins s k h) = seed_small s k h
      flow_small (brings r e at f) = inl refl
      flow_small (starts r e k at f c h) = inr ((edges_within r e at).first k (and_both (not (eqb k end)) (has e.first k) h).1)
      flow_small (passes r e k at f h g) = flow_small g

      -- the lookaheads that were brought hold terminals and the end alone
      pub brought_tokens : HoldTokens marks end brought
      brought_tokens i k h =
          let r = part i h.0 h.1 in
          let small = within r.0.left h.0 r.3 k h.2 in
          ⊎_elim (λ e. absurd (omega (arith, e, small))) (λ l. l)
          (flow_small (has_slot r.0.left k h.0 r.3 (or_right (eqb (end + 2) k) (has (marks h.0) k) h.2)))
