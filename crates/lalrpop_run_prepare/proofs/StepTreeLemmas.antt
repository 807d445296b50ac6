-- Where nothing is barren that a name reaches, nothing is after inlining, whatever is inlined: what it reaches is what it reached, and trees
-- become trees, a node with what it inlines in one. For what is prepared.
use Rattle.std.proofs.Common.{◌≡◌, ◌∙◌, ◌+◌, ◌⊎◌, ℕ, List, [], ◌∷◌, ◌++◌, ap, inl, inr, refl, subst, sym}
use Rattle.std.proofs.Common.{Bool, Contains, false, length, map, true}
use Rattle.std.specs.Prelude.{if◌then◌else◌}
use Rattle.std.specs.List.{list_any}
use Rattle.std.proofs.lemmas.List.{map-append}
use Rattle.lalrpop_grammar_symbols.specs.Symbols.{Text}
use Rattle.lalrpop_grammar_symbols.specs.Views.{terminal_view}
use Rattle.lalrpop_grammar_symbols.specs.declared.names.NonterminalString.{NonterminalString}
use Rattle.lalrpop_grammar_language.specs.Among.{Among}
use Rattle.lalrpop_grammar_language.proofs.AmongLemmas.{among_contains, among_flat_map, contains_among, flat_map_among, map_among}
use Rattle.lalrpop_grammar_language.proofs.OrderLemmas.{among_parts}
use Rattle.lalrpop_grammar_language.proofs.PlaceLemmas.{among_map}
use Rattle.lalrpop_grammar_language.proofs.StepLemmas.{among_left, among_right}
use Rattle.lalrpop_grammar_repr.specs.declared.action.ActionFnDefn.{ActionFnDefn}
use Rattle.lalrpop_grammar_repr.specs.declared.action.InlinedSymbol.{InlinedSymbol}
use Rattle.lalrpop_grammar_repr.specs.declared.action.InlinedSymbol.TheVariants as inlined
use Rattle.lalrpop_grammar_repr.specs.declared.production.NonterminalData.{NonterminalData}
use Rattle.lalrpop_grammar_repr.specs.declared.production.Production.{Production}
use Rattle.lalrpop_grammar_repr.specs.declared.production.Symbol.{Symbol}
use Rattle.lalrpop_grammar_repr.specs.declared.production.Symbol.TheVariants as symbols
use Rattle.lalrpop_lr1_core.specs.Views.{production_symbol_view, production_view}
use Rattle.lalrpop_lr1_inline.specs.InlinedNames.{NonterminalEntries}
use Rattle.lalrpop_lr1_inline.specs.InliningSteps.{AreInlineSteps, all_records_after, data_after, entries_after, is_place}
use Rattle.lalrpop_lr1_inline.specs.InliningSteps.{production_of_record, productions_after, productions_in_place, productions_named}
use Rattle.lalrpop_lr1_inline.specs.InliningSteps.{productions_of_records, record_entries, records_after, records_in_place}
use Rattle.lalrpop_lr1_inline.specs.InliningSteps.{records_of, side_of_entry, side_of_record}
use Rattle.lalrpop_lr1_inline.proofs.KeptLemmas.{kept_record, records_kept, side_kept}
use Rattle.lalrpop_lr1_inline.proofs.StepsLemmas.{same_bytes}
use Rattle.lalrpop_lr1_theory.specs.Productions as theory
use Rattle.lalrpop_lr1_theory.specs.Trees.{AreOver, Forest, leaf, node, none, roots, ◌and◌}
use Rattle.lalrpop_lr1_theory.specs.ValidItems.{NoneBarren, Reaches, itself, onward}
use Rattle.lalrpop_lr1_theory.proofs.TreeLemmas.{over-and, roots-and}
use Rattle.lalrpop_run_prepare.specs.NamedGrammars.{StandUnderNames}
use Rattle.lalrpop_run_prepare.proofs.InlinedEntryLemmas.{AreSorted, named_entry, named_name, stands_named, steps_own, steps_sorted}
use Rattle.lalrpop_run_prepare.proofs.InlinedExpansionLemmas.{IsSeen, is_seen, seen, seen_in}
use Rattle.lalrpop_run_prepare.proofs.ToldStepLemmas.{HoldsOfEach, HoldsOfMade, entries_hold, is_recorded}

head_of : {A : Type 0} (x y : A) (xs ys : List A) → x ∷ xs ≡ y ∷ ys → x ≡ y
head_of x y xs ys e = cc

tail_of : {A : Type 0} (x y : A) (xs ys : List A) → x ∷ xs ≡ y ∷ ys → xs ≡ ys
tail_of x y xs ys e = cc

-- what stands for a production after a step

module _ (n : Text) (ps : List Production) where
  -- One of the productions is what the record makes of the other, or is that, where the record has nothing inlined.
  record Replaces (q : Production) (r : List InlinedSymbol) (productions : List Production) : Type 0 where
    made : Production
    stands : Among productions made
    nonterminal_is : made.nonterminal ≡ q.nonterminal
    symbols_are : made.symbols ≡ side_of_record r

  records_make : (q : Production) (rs : List (List InlinedSymbol)) (k : ℕ) (r : List InlinedSymbol) → Among rs r →
      Replaces q r (productions_of_records q rs k)
  records_make q [] k r i = absurd i
  records_make q (s ∷ rs) k r (inl e) =
      subst (λ (t : List InlinedSymbol). Replaces q t (productions_of_records q (s ∷ rs) k)) e
      (record { made = production_of_record q s k; stands = inl refl; nonterminal_is = refl; symbols_are = refl })
  records_make q (s ∷ rs) k r (inr i) =
      let m = records_make q rs (k + 1) r i in
      record { made = m.made; stands = inr m.stands; nonterminal_is = m.nonterminal_is; symbols_are = m.symbols_are }

  place_makes : (q : Production) (k : ℕ) (r : List InlinedSymbol) → Among (records_of n ps q.symbols) r →
      Replaces q r (productions_in_place n ps q k)
  place_makes q k = go (list_any (is_place n) q.symbols) refl
    where
      only : (r : List InlinedSymbol) → Among (kept_record q.symbols ∷ []) r → Replaces q r (q ∷ [])
      only r (inl e) =
          subst (λ (t : List InlinedSymbol). Replaces q t (q ∷ [])) e
          (record { made = q; stands = inl refl; nonterminal_is = refl; symbols_are = sym (side_kept q.symbols) })
      only r (inr i) = absurd i

      go : (b : Bool) → list_any (is_place n) q.symbols ≡ b → (r : List InlinedSymbol) → Among (records_of n ps q.symbols) r →
          Replaces q r (if b then productions_of_records q (records_of n ps q.symbols) k else q ∷ [])
      go true f r i = records_make q (records_of n ps q.symbols) k r i
      go false f r i = only r (subst (λ (l : List (List InlinedSymbol)). Among l r) (records_kept n ps q.symbols f) i)

  after_makes : (qs : List Production) (k : ℕ) (q : Production) → Among qs q → (r : List InlinedSymbol) →
      Among (records_of n ps q.symbols) r → Replaces q r (productions_after n ps qs k)
  after_makes [] k q i r j = absurd i
  after_makes (p ∷ qs) k q (inl e) r j =
      let back : q ≡ p = sym e in
      let m = place_makes p k r (subst (λ (x : Production). Among (records_of n ps x.symbols) r) back j) in
      subst (λ (x : Production). Replaces x r (productions_after n ps (p ∷ qs) k)) e (record {
        made = m.made;
        stands = among_left (productions_in_place n ps p k) (productions_after n ps qs (k + length (records_in_place n ps p))) m.made
            m.stands;
        nonterminal_is = m.nonterminal_is;
        symbols_are = m.symbols_are;
      })
  after_makes (p ∷ qs) k q (inr i) r j =
      let m = after_makes qs (k + length (records_in_place n ps p)) q i r j in
      record {
        made = m.made;
        stands = among_right (productions_in_place n ps p k) (productions_after n ps qs (k + length (records_in_place n ps p))) m.made
            m.stands;
        nonterminal_is = m.nonterminal_is;
        symbols_are = m.symbols_are;
      }

  -- the same among entries
  record StandsAfter (q : Production) (r : List InlinedSymbol) (es : NonterminalEntries) : Type 0 where
    entry : NonterminalString × NonterminalData
    in_grammar : Among es entry
    replaces : Replaces q r entry.1.productions

  entries_make : (es : NonterminalEntries) (k : ℕ) (e : NonterminalString × NonterminalData) (q : Production) → Among es e →
      Among e.1.productions q → (r : List InlinedSymbol) → Among (records_of n ps q.symbols) r →
      StandsAfter q r (entries_after n ps es k)
  entries_make [] k e q i j r a = absurd i
  entries_make (d ∷ es) k e q (inl same) j r a =
      let back : e ≡ d = sym same in
      record {
        entry = (d.0, data_after d.1 (productions_after n ps d.1.productions k));
        in_grammar = inl refl;
        replaces = after_makes d.1.productions k q
            (subst (λ (x : NonterminalString × NonterminalData). Among x.1.productions q) back j) r a;
      }
  entries_make (d ∷ es) k e q (inr i) j r a =
      let m = entries_make es (k + length (records_after n ps d.1.productions)) e q i j r a in
      record { entry = m.entry; in_grammar = inr m.in_grammar; replaces = m.replaces }

  -- what a record of a right side names

  -- The right side names it, or names the nonterminal, of which a production names it.
  abbrev NamesOrSource : List theory.Symbol → Text → Type 0
  NamesOrSource side B =
      Among side (theory.nonterminal B)
      ⊎ (Among side (theory.nonterminal n) × (q : Production) × Among ps q
      × Among (map production_symbol_view q.symbols) (theory.nonterminal B))

  place_named : (s : Symbol) → is_place n s ≡ true → production_symbol_view s ≡ theory.nonterminal n
  place_named (symbols.Nonterminal m) e = ap theory.nonterminal (same_bytes m.0 n e)
  place_named (symbols.Terminal t) e = let wrong : ⊥ = cc in absurd wrong

  entry_names : (s : Symbol) (B : Text) (e : InlinedSymbol) → Among (record_entries n ps s) e →
      Among (map production_symbol_view (side_of_entry e)) (theory.nonterminal B) → NamesOrSource (production_symbol_view s ∷ []) B
  entry_names s B e i a = go (is_place n s) refl i
    where
      go : (b : Bool) → is_place n s ≡ b →
          Among (if b then map (λ (p : Production). inlined.Inlined p.action p.symbols) ps else inlined.Original s ∷ []) e →
          NamesOrSource (production_symbol_view s ∷ []) B
      go true f j =
          let w = among_map (λ (p : Production). inlined.Inlined p.action p.symbols) ps e j in
          let named : Among (map production_symbol_view w.0.symbols) (theory.nonterminal B) =
          subst (λ (x : InlinedSymbol). Among (map production_symbol_view (side_of_entry x)) (theory.nonterminal B)) (sym w.2) a in
          inr (inl (place_named s f), w.0, w.1, named)
      go false f (inl same) =
          inl (subst (λ (x : InlinedSymbol). Among (map production_symbol_view (side_of_entry x)) (theory.nonterminal B)) (sym same) a)
      go false f (inr j) = absurd j

  first_names : (s : theory.Symbol) (side : List theory.Symbol) (B : Text) → NamesOrSource (s ∷ []) B → NamesOrSource (s ∷ side) B
  first_names s side B (inl a) = inl (among_left (s ∷ []) side (theory.nonterminal B) a)
  first_names s side B (inr a) = inr (among_left (s ∷ []) side (theory.nonterminal n) a.0, a.1, a.2, a.3)

  more_names : (s : theory.Symbol) (side : List theory.Symbol) (B : Text) → NamesOrSource side B → NamesOrSource (s ∷ side) B
  more_names s side B (inl a) = inl (inr a)
  more_names s side B (inr a) = inr (inr a.0, a.1, a.2, a.3)

  record_names : (side : List Symbol) (B : Text) (r : List InlinedSymbol) → Among (records_of n ps side) r →
      Among (map production_symbol_view (side_of_record r)) (theory.nonterminal B) →
      NamesOrSource (map production_symbol_view side) B
  record_names [] B r (inl e) a =
      absurd (subst (λ (x : List InlinedSymbol). Among (map production_symbol_view (side_of_record x)) (theory.nonterminal B)) (sym e) a)
  record_names [] B r (inr i) a = absurd i
  record_names (s ∷ side) B r i a =
      let x = among_flat_map (λ e. map (λ q. e ∷ q) (records_of n ps side)) (record_entries n ps s) r i in
      let y = among_map (λ (q : List InlinedSymbol). x.0 ∷ q) (records_of n ps side) r x.2 in
      let whole : Among (map production_symbol_view (side_of_entry x.0 ++ side_of_record y.0)) (theory.nonterminal B) =
      subst (λ (z : List InlinedSymbol). Among (map production_symbol_view (side_of_record z)) (theory.nonterminal B)) (sym y.2) a in
      let parts : Among (map production_symbol_view (side_of_entry x.0) ++ map production_symbol_view (side_of_record y.0))
      (theory.nonterminal B) =
      subst (λ (l : List theory.Symbol). Among l (theory.nonterminal B))
      (map-append production_symbol_view (side_of_entry x.0) (side_of_record y.0)) whole in
      go x.0 x.1 y.0
      (among_parts (map production_symbol_view (side_of_entry x.0)) (map production_symbol_view (side_of_record y.0))
      (theory.nonterminal B) parts)
      (record_names side B y.0 y.1)
    where
      go : (e : InlinedSymbol) → Among (record_entries n ps s) e → (q : List InlinedSymbol) →
          Among (map production_symbol_view (side_of_entry e)) (theory.nonterminal B)
          ⊎ Among (map production_symbol_view (side_of_record q)) (theory.nonterminal B) →
          (Among (map production_symbol_view (side_of_record q)) (theory.nonterminal B) →
          NamesOrSource (map production_symbol_view side) B) →
          NamesOrSource (map production_symbol_view (s ∷ side)) B
      go e j q (inl b) later =
          first_names (production_symbol_view s) (map production_symbol_view side) B (entry_names s B e j b)
      go e j q (inr b) later = more_names (production_symbol_view s) (map production_symbol_view side) B (later b)

-- what holds of each production that a record makes holds of all of them
made_hold : (Holds : Production → Type 0) (ms : List (Production × List InlinedSymbol)) →
    ((m : Production × List InlinedSymbol) → Among ms m → (k : ℕ) → Holds (production_of_record m.0 m.1 k)) → (k : ℕ) →
    HoldsOfMade Holds k ms
made_hold Holds [] each k = tt
made_hold Holds (m ∷ ms) each k = (each m (inl refl) k, made_hold Holds ms (λ x i. each x (inr i)) (k + 1))

module _ (es : NonterminalEntries) (sorted : AreSorted es) (own : StandUnderNames es) (n : Text) (k : ℕ) where
  abbrev sources : List Production
  sources = productions_named es n

  abbrev after : NonterminalEntries
  after = entries_after n sources es k

  abbrev Before : theory.Production → Type 0
  Before = Contains (seen_in es)

  abbrev After : theory.Production → Type 0
  After = Contains (seen_in after)

  -- what a name reaches

  -- where it reaches the nonterminal of the production, it reaches what the production names
  abbrev LeadsOn : Text → Production → Type 0
  LeadsOn s p =
      Reaches Before s p.nonterminal.0 → (B : Text) → Among (map production_symbol_view p.symbols) (theory.nonterminal B) →
      Reaches Before s B

  old_lead : (s : Text) → HoldsOfEach (LeadsOn s) es
  old_lead s e p i j reached B a =
      onward (production_view p) B reached (seen es e p i j)
      (among_contains (map production_symbol_view p.symbols) (theory.nonterminal B) a)

  made_leads : (s : Text) (m : Production × List InlinedSymbol) → Among (all_records_after n sources es) m → (j : ℕ) →
      LeadsOn s (production_of_record m.0 m.1 j)
  made_leads s m i j reached B a =
      let w = is_recorded n sources es m i in
      let leads = old_lead s w.entry m.0 w.in_grammar w.in_entry reached in
      go leads (record_names n sources m.0.symbols B m.1 w.is_record a)
    where
      go : ((C : Text) → Among (map production_symbol_view m.0.symbols) (theory.nonterminal C) → Reaches Before s C) →
          NamesOrSource n sources (map production_symbol_view m.0.symbols) B → Reaches Before s B
      go leads (inl b) = leads B b
      go leads (inr b) =
          let d = named_entry es n b.1 b.2 in
          let there : Reaches Before s b.1.nonterminal.0 = subst (Reaches Before s) (sym (named_name es own n b.1 b.2)) (leads n b.0) in
          old_lead s _ b.1 d.1 d.2 there B b.3

  all_lead : (s : Text) → HoldsOfEach (LeadsOn s) after
  all_lead s =
      entries_hold (LeadsOn s) n sources es (old_lead s) k
      (made_hold (LeadsOn s) (all_records_after n sources es) (made_leads s) k)

  reached_before : (s B : Text) → Reaches After s B → Reaches Before s B
  reached_before s B itself = itself
  reached_before s B (onward p C r m c) =
      let w = is_seen after p m in
      let left : p.left ≡ w.production.nonterminal.0 = sym (ap (λ (z : theory.Production). z.left) w.seen_is) in
      all_lead s w.entry w.production w.in_grammar w.in_entry (subst (Reaches Before s) left (reached_before s p.left r)) B
      (subst (λ (z : theory.Production). Among z.right (theory.nonterminal B)) (sym w.seen_is)
      (contains_among p.right (theory.nonterminal B) c))

  -- trees

  -- trees after the step with these roots
  record HasTrees (side : List theory.Symbol) : Type 0 where
    trees : Forest
    roots_are : roots trees ≡ side
    are_over : AreOver After trees

  -- the same for what a record of a right side leaves
  record HasTreesByRecord (side : List Symbol) : Type 0 where
    entries : List InlinedSymbol
    is_record : Among (records_of n sources side) entries
    by_record : HasTrees (map production_symbol_view (side_of_record entries))

  joined : (xs ys : List theory.Symbol) → HasTrees xs → HasTrees ys → HasTrees (xs ++ ys)
  joined xs ys a b = record {
    trees = a.trees and b.trees;
    roots_are = roots-and a.trees b.trees ∙ ap (λ l. l ++ roots b.trees) a.roots_are ∙ ap (λ l. xs ++ l) b.roots_are;
    are_over = over-and After a.trees b.trees a.are_over b.are_over;
  }

  -- a symbol more
  longer : (s : Symbol) (e : InlinedSymbol) (side : List Symbol) → Among (record_entries n sources s) e →
      HasTrees (map production_symbol_view (side_of_entry e)) → HasTreesByRecord side → HasTreesByRecord (s ∷ side)
  longer s e side i a b = record {
    entries = e ∷ b.entries;
    is_record = flat_map_among (λ x. map (λ r. x ∷ r) (records_of n sources side)) (record_entries n sources s) e (e ∷ b.entries) i
        (map_among (λ (r : List InlinedSymbol). e ∷ r) (records_of n sources side) b.entries b.is_record);
    by_record = subst HasTrees (sym (map-append production_symbol_view (side_of_entry e) (side_of_record b.entries)))
        (joined (map production_symbol_view (side_of_entry e)) (map production_symbol_view (side_of_record b.entries)) a b.by_record);
  }

  -- over what a record of its production leaves a node stands
  node_after : (p : theory.Production) (w : IsSeen es p) → HasTreesByRecord w.production.symbols →
      HasTrees (theory.nonterminal p.left ∷ [])
  node_after p w h =
      let m = entries_make n sources es k w.entry w.production w.in_grammar w.in_entry h.entries h.is_record in
      let q = m.replaces.made in
      record {
        trees = node (production_view q) h.by_record.trees none;
        roots_are =
            ap (λ (x : NonterminalString). theory.nonterminal x.0 ∷ []) m.replaces.nonterminal_is
            ∙ ap (λ (z : theory.Production). theory.nonterminal z.left ∷ []) w.seen_is;
        are_over = (
          seen after m.entry q m.in_grammar m.replaces.stands,
          h.by_record.roots_are ∙ ap (map production_symbol_view) (sym m.replaces.symbols_are),
          h.by_record.are_over,
          tt,
        );
      }

  -- for each right side with these symbols trees by a record
  abbrev HaveRecords : List theory.Symbol → Type 0
  HaveRecords rest = (side : List Symbol) → rest ≡ map production_symbol_view side → HasTreesByRecord side

  no_records : HaveRecords []
  no_records [] e = record { entries = []; is_record = inl refl; by_record = record { trees = none; roots_are = refl; are_over = tt } }
  no_records (s ∷ side) e = let wrong : ⊥ = cc in absurd wrong

  leaf_records : (t : _) (rest : List theory.Symbol) → HaveRecords rest → HaveRecords (theory.terminal t ∷ rest)
  leaf_records t rest later [] e = let wrong : ⊥ = cc in absurd wrong
  leaf_records t rest later (symbols.Nonterminal m ∷ side) e = let wrong : ⊥ = cc in absurd wrong
  leaf_records t rest later (symbols.Terminal u ∷ side) e =
      let s = symbols.Terminal u in
      longer s (inlined.Original s) side (inl refl)
      (record {
        trees = leaf t none;
        roots_are = ap (λ (x : theory.Symbol). x ∷ [])
            (head_of (theory.terminal t) (theory.terminal (terminal_view u)) rest (map production_symbol_view side) e);
        are_over = tt;
      })
      (later side (tail_of (theory.terminal t) (theory.terminal (terminal_view u)) rest (map production_symbol_view side) e))

  node_records : (p : theory.Production) → IsSeen es p → HasTrees (theory.nonterminal p.left ∷ []) → HasTrees p.right →
      (rest : List theory.Symbol) → HaveRecords rest → HaveRecords (theory.nonterminal p.left ∷ rest)
  node_records p w here inside rest later [] e = let wrong : ⊥ = cc in absurd wrong
  node_records p w here inside rest later (symbols.Terminal u ∷ side) e = let wrong : ⊥ = cc in absurd wrong
  node_records p w here inside rest later (symbols.Nonterminal m ∷ side) e = go (is_place n s) refl
    where
      s : Symbol
      s = symbols.Nonterminal m

      first : theory.nonterminal p.left ≡ theory.nonterminal m.0
      first = head_of (theory.nonterminal p.left) (theory.nonterminal m.0) rest (map production_symbol_view side) e

      more : HasTreesByRecord side
      more = later side (tail_of (theory.nonterminal p.left) (theory.nonterminal m.0) rest (map production_symbol_view side) e)

      entry_is : (b : Bool) → is_place n s ≡ b → (x : InlinedSymbol) →
          Among (if b then map (λ (q : Production). inlined.Inlined q.action q.symbols) sources else inlined.Original s ∷ []) x →
          Among (record_entries n sources s) x
      entry_is b f x i =
          subst (λ (c : Bool).
          Among (if c then map (λ (q : Production). inlined.Inlined q.action q.symbols) sources else inlined.Original s ∷ []) x) (sym f) i

      named : m.0 ≡ n → w.entry.0.0 ≡ n
      named same =
          let left : p.left ≡ m.0 = cc in
          ap (λ (x : NonterminalString). x.0) (sym (own w.entry w.production w.in_grammar w.in_entry))
          ∙ ap (λ (z : theory.Production). z.left) w.seen_is ∙ left ∙ same

      go : (b : Bool) → is_place n s ≡ b → HasTreesByRecord (s ∷ side)
      go true f =
          let q = w.production in
          let source : Among sources q =
          subst (λ (x : Text). Among (productions_named es x) q) (named (same_bytes m.0 n f))
          (stands_named es sorted w.entry q w.in_grammar w.in_entry) in
          let x = inlined.Inlined q.action q.symbols in
          longer s x side
          (entry_is true f x (map_among (λ (y : Production). inlined.Inlined y.action y.symbols) sources q source))
          (subst HasTrees (sym (ap (λ (z : theory.Production). z.right) w.seen_is)) inside) more
      go false f =
          longer s (inlined.Original s) side (entry_is false f (inlined.Original s) (inl refl))
          (subst (λ (x : theory.Symbol). HasTrees (x ∷ [])) first here) more

  trees_after : (ts : Forest) → AreOver Before ts → HasTrees (roots ts) × HaveRecords (roots ts)
  trees_after none o = (record { trees = none; roots_are = refl; are_over = tt }, no_records)
  trees_after (leaf t ts) o =
      let r = trees_after ts o in (
        record {
          trees = leaf t r.0.trees;
          roots_are = ap (λ (l : List theory.Symbol). theory.terminal t ∷ l) r.0.roots_are;
          are_over = r.0.are_over;
        },
        leaf_records t (roots ts) r.1,
      )
  trees_after (node p cs ts) o =
      let c = trees_after cs o.2 in
      let r = trees_after ts o.3 in
      let w = is_seen es p o.0 in
      let here = node_after p w (c.1 w.production.symbols (o.1 ∙ sym (ap (λ (z : theory.Production). z.right) w.seen_is))) in (
        joined (theory.nonterminal p.left ∷ []) (roots ts) here r.0,
        node_records p w here (subst HasTrees o.1 c.0) (roots ts) r.1,
      )

  step_none_barren : (s : Text) → NoneBarren Before s → NoneBarren After s
  step_none_barren s none_before A r =
      let t = none_before A (reached_before s A r) in
      let w = (trees_after t.0 t.1.1).0 in
      (w.trees, (w.roots_are ∙ t.1.0, w.are_over))

-- what is said of one step holds of all
pub steps_none_barren : (ns : List Text) (es end : NonterminalEntries) (actions actions_after : List ActionFnDefn) →
    AreInlineSteps ns es actions end actions_after → AreSorted es → StandUnderNames es → (s : Text) →
    NoneBarren (Contains (seen_in es)) s → NoneBarren (Contains (seen_in end)) s
steps_none_barren [] es end actions actions_after h sorted own s none_before =
    subst (λ (l : NonterminalEntries). NoneBarren (Contains (seen_in l)) s) (sym h.0) none_before
steps_none_barren (n ∷ ns) es end actions actions_after h sorted own s none_before =
    let one : AreInlineSteps (n ∷ []) es actions h.0 h.1 = (h.0, h.1, h.2, (refl, refl)) in
    steps_none_barren ns h.0 end h.1 actions_after h.3 (steps_sorted (n ∷ []) es h.0 actions h.1 one sorted)
    (steps_own (n ∷ []) es h.0 actions h.1 one own) s
    (subst (λ (l : NonterminalEntries). NoneBarren (Contains (seen_in l)) s) (sym h.2.entries_are)
    (step_none_barren es sorted own n (length actions) s none_before))
