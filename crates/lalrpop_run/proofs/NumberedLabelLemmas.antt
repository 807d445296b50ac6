-- The labels of actions by their numbers, step by step in the order of inlining, however many numbers there are: for how many are handed
-- out.
use Rattle.std.proofs.Common.{◌≡◌, ◌∙◌, ◌+◌, ◌<◌, ◌≤◌, ◌⊎◌, Bool, ℕ, List, [], ◌∷◌, ◌++◌, ap, append_assoc, arith, false, inl, inr, length}
use Rattle.std.proofs.Common.{map, refl, subst, sym, true}
use Rattle.std.specs.Prelude.{All, eqb, flat_map, if◌then◌else◌}
use Rattle.std.specs.List.{list_any}
use Rattle.std.specs.List.Sorted.{IsStrictlySortedBy}
use Rattle.std.proofs.lemmas.Bool.{eq-eqb, eqb-true}
use Rattle.lalrpop_grammar_symbols.specs.Symbols.{Text}
use Rattle.lalrpop_grammar_symbols.specs.contracts.names.NonterminalStringOrd.TheImpl as names
use Rattle.lalrpop_grammar_symbols.specs.declared.names.NonterminalString.{NonterminalString}
use Rattle.lalrpop_grammar_language.specs.Among.{Among}
use Rattle.lalrpop_grammar_language.specs.Expansion.{GrammarSymbol}
use Rattle.lalrpop_grammar_language.specs.Inlining.{Inlines}
use Rattle.lalrpop_grammar_language.specs.Labels.{BaseProductions, GrammarSymbols, Label}
use Rattle.lalrpop_grammar_language.specs.Steps.{NamesInlinedFirst, NeverNamesItself, OneMore, RecordedSymbol, label_with}
use Rattle.lalrpop_grammar_language.proofs.AmongLemmas.{among_flat_map, flat_map_among}
use Rattle.lalrpop_grammar_language.proofs.OrderLemmas.{among_parts, never_names}
use Rattle.lalrpop_grammar_language.proofs.PlaceLemmas.{among_map}
use Rattle.lalrpop_grammar_language.proofs.SideLemmas.{inlines_same}
use Rattle.lalrpop_grammar_language.proofs.StepLemmas.{among_left, among_right}
use Rattle.lalrpop_grammar_language.proofs.StepOnceLemmas.{append-none}
use Rattle.lalrpop_grammar_repr.specs.declared.action.InlinedSymbol.{InlinedSymbol}
use Rattle.lalrpop_grammar_repr.specs.declared.action.InlinedSymbol.TheVariants as inlined
use Rattle.lalrpop_grammar_repr.specs.declared.production.NonterminalData.{NonterminalData}
use Rattle.lalrpop_grammar_repr.specs.declared.production.Production.{Production}
use Rattle.lalrpop_grammar_repr.specs.declared.production.Symbol.{Symbol}
use Rattle.lalrpop_lr1_inline.specs.InlinedLabels.{StandOnce, production_actions}
use Rattle.lalrpop_lr1_inline.specs.InlinedNames.{NonterminalEntries, inlined_in_symbols, inlined_named_by, is_inlined_name, names_in_symbol}
use Rattle.lalrpop_lr1_inline.specs.InliningOrders.{HasAllInlined, HasNameOnce, HasNamedFirst}
use Rattle.lalrpop_lr1_inline.specs.InliningSteps.{all_records_after, entries_after, is_place, numbers_after, productions_named}
use Rattle.lalrpop_lr1_inline.specs.InliningSteps.{record_entries, records_after, records_in_place, records_of}
use Rattle.lalrpop_lr1_inline.specs.NamedProductions.{ProducesByAction, entry_by_labels, label_given, record_by_labels, side_by_names}
use Rattle.lalrpop_lr1_inline.proofs.AfterStepLemmas.{AreBelow, entries_below, keys_after}
use Rattle.lalrpop_lr1_inline.proofs.GivenLabelLemmas.{given_labels, named_stands}
use Rattle.lalrpop_lr1_inline.proofs.MadeLabelLemmas.{LabelsFrom}
use Rattle.lalrpop_lr1_inline.proofs.OnceLemmas.{once_by}
use Rattle.lalrpop_lr1_inline.proofs.SmallerLemmas.{entries_of_all}
use Rattle.lalrpop_lr1_inline.proofs.SourceLemmas.{around}
use Rattle.lalrpop_lr1_inline.proofs.StepLabelLemmas.{AreProductionsBy, step_labels}
use Rattle.lalrpop_norm_theory.proofs.LevelLemmas.{keeps}
use Rattle.lalrpop_run_prepare.proofs.InlinedEntryLemmas.{AreSorted}
use Rattle.lalrpop_run.proofs.InlineCycleLemmas.{side_named}

abbrev Made : Type 0
Made = Production × List InlinedSymbol

-- the label of what a record makes of a production
abbrev label_made : (ℕ → Label Text ℕ) → Made → Label Text ℕ
label_made lab m = label_with (lab m.0.action.0) (record_by_labels lab m.1)

-- the labels with those of what is made from a number on
abbrev labels_put : (ℕ → Label Text ℕ) → ℕ → List Made → ℕ → Label Text ℕ
labels_put lab k [] i = lab i
labels_put lab k (m ∷ ms) i = if eqb k i then label_made lab m else labels_put lab (k + 1) ms i

-- smaller numbers keep theirs
put_below : (lab : ℕ → Label Text ℕ) (k : ℕ) (ms : List Made) (i : ℕ) → i < k → labels_put lab k ms i ≡ lab i
put_below lab k [] i l = refl
put_below lab k (m ∷ ms) i l = go (eqb k i) refl (put_below lab (k + 1) ms i (omega (arith, l)))
  where
    go : (b : Bool) → eqb k i ≡ b → labels_put lab (k + 1) ms i ≡ lab i →
        (if b then label_made lab m else labels_put lab (k + 1) ms i) ≡ lab i
    go true e ih = let same : k ≡ i = eqb-true k i e in absurd (omega (arith, same, l))
    go false e ih = ih

other_number : (k i : ℕ) → k < i → eqb k i ≡ false
other_number k i l = go (eqb k i) refl
  where
    go : (b : Bool) → eqb k i ≡ b → b ≡ false
    go true e = let same : k ≡ i = eqb-true k i e in absurd (omega (arith, same, l))
    go false e = refl

-- and the others have those of what is made
put_labels : (lab other : ℕ → Label Text ℕ) (k : ℕ) (ms : List Made) → ((i : ℕ) → k ≤ i → other i ≡ labels_put lab k ms i) →
    ((m : Made) → Among ms m → label_made lab m ≡ label_made other m) → LabelsFrom other k ms
put_labels lab other k [] same made = tt
put_labels lab other k (m ∷ ms) same made = (
  same k (omega arith)
      ∙ ap (λ (b : Bool). if b then label_made lab m else labels_put lab (k + 1) ms k) (eq-eqb k k refl)
      ∙ made m (inl refl),
  put_labels lab other (k + 1) ms
      (λ i l. same i (omega (arith, l))
      ∙ ap (λ (b : Bool). if b then label_made lab m else labels_put lab (k + 1) ms i) (other_number k i (omega (arith, l))))
      (λ x j. made x (inr j)),
)

-- labels that are the same for the productions of entries are the same for what a step makes of them
module _ (f g : ℕ → Label Text ℕ) (n : Text) (ps : List Production) (same : (p : Production) → Among ps p → f p.action.0 ≡ g p.action.0)
  where
    entry_same : (s : Symbol) (e : InlinedSymbol) → Among (record_entries n ps s) e → entry_by_labels f e ≡ entry_by_labels g e
    entry_same s e = go (is_place n s)
      where
        go : (b : Bool) →
            Among (if b then map (λ (p : Production). inlined.Inlined p.action p.symbols) ps else inlined.Original s ∷ []) e →
            entry_by_labels f e ≡ entry_by_labels g e
        go true i =
            let w = among_map (λ (p : Production). inlined.Inlined p.action p.symbols) ps e i in
            subst (λ (x : InlinedSymbol). entry_by_labels f x ≡ entry_by_labels g x) w.2
            (ap (λ (l : Label Text ℕ). RecordedSymbol.inlined l (side_by_names w.0.symbols)) (same w.0 w.1))
        go false (inl is) = subst (λ (x : InlinedSymbol). entry_by_labels f x ≡ entry_by_labels g x) is refl
        go false (inr i) = absurd i

    record_same : (side : List Symbol) (r : List InlinedSymbol) → Among (records_of n ps side) r →
        record_by_labels f r ≡ record_by_labels g r
    record_same [] r (inl is) = subst (λ (x : List InlinedSymbol). record_by_labels f x ≡ record_by_labels g x) is refl
    record_same [] r (inr i) = absurd i
    record_same (s ∷ side) r i =
        let a = among_flat_map (λ e. map (λ q. e ∷ q) (records_of n ps side)) (record_entries n ps s) r i in
        let b = among_map (λ q. a.0 ∷ q) (records_of n ps side) r a.2 in
        subst (λ (x : List InlinedSymbol). record_by_labels f x ≡ record_by_labels g x) b.2
        (ap (λ (l : RecordedSymbol Text ℕ). l ∷ record_by_labels f b.0) (entry_same s a.0 a.1)
        ∙ ap (λ (l : List (RecordedSymbol Text ℕ)). entry_by_labels g a.0 ∷ l) (record_same side b.0 b.1))

    place_same : (q : Production) (r : List InlinedSymbol) → Among (records_in_place n ps q) r →
        record_by_labels f r ≡ record_by_labels g r
    place_same q r = go (list_any (is_place n) q.symbols)
      where
        go : (b : Bool) → Among (if b then records_of n ps q.symbols else []) r → record_by_labels f r ≡ record_by_labels g r
        go true i = record_same q.symbols r i
        go false i = absurd i

    made_same : (es : NonterminalEntries) →
        ((e : NonterminalString × NonterminalData) (p : Production) → Among es e → Among e.1.productions p →
        f p.action.0 ≡ g p.action.0) →
        (m : Production × List InlinedSymbol) → Among (all_records_after n ps es) m → label_made f m ≡ label_made g m
    made_same es each m i =
        let a = among_flat_map (λ (e : NonterminalString × NonterminalData). records_after n ps e.1.productions) es m i in
        let b = among_flat_map (λ (p : Production). map (λ (r : List InlinedSymbol). (p, r)) (records_in_place n ps p))
        a.0.1.productions m a.2 in
        let c = among_map (λ (r : List InlinedSymbol). (b.0, r)) (records_in_place n ps b.0) m b.2 in
        subst (λ (x : Production × List InlinedSymbol). label_made f x ≡ label_made g x) c.2
        (ap (λ (l : Label Text ℕ). label_with l (record_by_labels f c.0)) (each a.0 b.0 a.1 b.1)
        ∙ ap (label_with (g b.0.action.0)) (place_same b.0 c.0 c.1))

-- the entries after these steps, where so many numbers were handed out before
abbrev pub entries_by : List Text → NonterminalEntries → ℕ → NonterminalEntries
entries_by [] es k = es
entries_by (n ∷ ns) es k =
    entries_by ns (entries_after n (productions_named es n) es k) (k + length (all_records_after n (productions_named es n) es))

-- steps behind steps
pub entries_by-append : (f g : List Text) (es : NonterminalEntries) (k : ℕ) →
    entries_by (f ++ g) es k ≡ entries_by g (entries_by f es k) (numbers_after f es k)
entries_by-append [] g es k = refl
entries_by-append (n ∷ f) g es k =
    entries_by-append f g (entries_after n (productions_named es n) es k)
    (k + length (all_records_after n (productions_named es n) es))

pub numbers_after-append : (f g : List Text) (es : NonterminalEntries) (k : ℕ) →
    numbers_after (f ++ g) es k ≡ numbers_after g (entries_by f es k) (numbers_after f es k)
numbers_after-append [] g es k = refl
numbers_after-append (n ∷ f) g es k =
    numbers_after-append f g (entries_after n (productions_named es n) es k)
    (k + length (all_records_after n (productions_named es n) es))

-- a step leaves names in their order
pub sorted_on : (n : Text) (ps : List Production) (es : NonterminalEntries) (k : ℕ) → AreSorted es →
    AreSorted (entries_after n ps es k)
sorted_on n ps es k sorted = subst (IsStrictlySortedBy (names.ghosts).cmp) (sym (keys_after n ps es k)) sorted

-- two ways to say which nonterminals are inlined tell the same productions
same_productions : (M : BaseProductions Text ℕ) (lab : ℕ → Label Text ℕ) (es : NonterminalEntries) (front : List Text) (n : Text) →
    AreProductionsBy M (OneMore (λ y. Among front y) n) lab es → AreProductionsBy M (λ y. Among (front ++ n ∷ []) y) lab es
same_productions M lab es front n are = record {
  sound = λ x p i. inlines_same M (OneMore (λ y. Among front y) n) (λ y. Among (front ++ n ∷ []) y) (λ y. (to y, back y))
      (lab p.action.0) x (side_by_names p.symbols) (are.sound x p i);
  all = λ x label side h. are.all x label side
      (inlines_same M (λ y. Among (front ++ n ∷ []) y) (OneMore (λ y. Among front y) n) (λ y. (back y, to y)) label x side h);
  once = are.once;
}
  where
    to : (y : Text) → OneMore (λ z. Among front z) n y → Among (front ++ n ∷ []) y
    to y (inl i) = among_left front (n ∷ []) y i
    to y (inr e) = among_right front (n ∷ []) y (inl (sym e))

    from : (y : Text) → Among front y ⊎ Among (n ∷ []) y → OneMore (λ z. Among front z) n y
    from y (inl i) = inl i
    from y (inr (inl e)) = inr (sym e)
    from y (inr (inr i)) = absurd i

    back : (y : Text) → Among (front ++ n ∷ []) y → OneMore (λ z. Among front z) n y
    back y i = from y (among_parts front (n ∷ []) y i)

-- Entries where a front of the order is inlined: the productions under their labels, and their numbers are below this one.
pub record AreEntriesAt (ds : NonterminalEntries) (lab : ℕ → Label Text ℕ) (front : List Text) (es : NonterminalEntries) (k : ℕ) :
    Type 0 where
  pub are : AreProductionsBy (ProducesByAction ds) (λ x. Among front x) lab es
  pub below : All (AreBelow k) es
  pub sorted : AreSorted es

-- labels for all steps: at each, the entries are the productions under them
pub record AreLabelsOfSteps (ds : NonterminalEntries) (lab : ℕ → Label Text ℕ) (front ns : List Text) (es : NonterminalEntries) (k : ℕ) :
    Type 0 where
  pub labels : ℕ → Label Text ℕ
  pub agree : (i : ℕ) → i < k → labels i ≡ lab i
  pub reached : (f b : List Text) → ns ≡ f ++ b → AreEntriesAt ds labels (front ++ f) (entries_by f es k) (numbers_after f es k)

module _ (ds : NonterminalEntries) where
  relabelled : (lab other : ℕ → Label Text ℕ) (front : List Text) (es : NonterminalEntries) (k : ℕ) →
      ((i : ℕ) → i < k → other i ≡ lab i) → AreEntriesAt ds lab front es k → AreEntriesAt ds other front es k
  relabelled lab other front es k same h = record {
    are = record {
      sound = λ x p i.
          subst (λ (l : Label Text ℕ). Inlines (ProducesByAction ds) (λ y. Among front y) x l (side_by_names p.symbols))
          (sym (here x p i)) (h.are.sound x p i);
      all = λ x label side i.
          let q = h.are.all x label side i in
          record {
            production = q.production;
            stands = q.stands;
            label_is = here x q.production q.stands ∙ q.label_is;
            side_is = q.side_is;
          };
      once = λ x.
          once_by (λ (p : Production). lab p.action.0) (λ (p : Production). other p.action.0) (productions_named es x)
          (λ p q i j e. sym (here x p i) ∙ e ∙ here x q j) (h.are.once x);
    };
    below = h.below;
    sorted = h.sorted;
  }
    where
      here : (x : Text) (p : Production) → Among (productions_named es x) p → other p.action.0 ≡ lab p.action.0
      here x p i =
          let w = named_stands es x p i in
          same p.action.0 (entries_of_all k es h.below w.0 w.1 p w.2)

  -- what is reached behind one step more is reached
  reached_on : (lab : ℕ → Label Text ℕ) (n : Text) (ns front : List Text) (es : NonterminalEntries) (k : ℕ) →
      AreEntriesAt ds lab front es k →
      ((f b : List Text) → ns ≡ f ++ b →
      AreEntriesAt ds lab ((front ++ n ∷ []) ++ f) (entries_by (n ∷ f) es k) (numbers_after (n ∷ f) es k)) →
      (f b : List Text) → n ∷ ns ≡ f ++ b → AreEntriesAt ds lab (front ++ f) (entries_by f es k) (numbers_after f es k)
  reached_on lab n ns front es k h later [] b e =
      subst (λ (l : List Text). AreEntriesAt ds lab l es k) (sym (append-none front)) h
  reached_on lab n ns front es k h later (y ∷ f) b e =
      let whole : n ∷ ns ≡ y ∷ (f ++ b) = e in
      let name : n ≡ y = cc in
      let rest : ns ≡ f ++ b = cc in
      subst (λ (x : Text). AreEntriesAt ds lab (front ++ x ∷ f) (entries_by (x ∷ f) es k) (numbers_after (x ∷ f) es k)) name
      (subst (λ (l : List Text). AreEntriesAt ds lab l (entries_by (n ∷ f) es k) (numbers_after (n ∷ f) es k))
      (append_assoc front (n ∷ []) f) (later f b rest))

  -- an inlined nonterminal on a right side is one that its nonterminal names
  named_there : (x : Text) (choice : ℕ) (side : GrammarSymbols Text) (y : Text) → ProducesByAction ds x choice side →
      Among side (GrammarSymbol.nonterminal y) → is_inlined_name ds y ≡ true → Among (inlined_named_by ds x) y
  named_there x choice side y w i marked =
      let p = w.0 in
      flat_map_among (λ (q : Production). inlined_in_symbols ds q.symbols) (productions_named ds x) p y w.1
      (keeps (is_inlined_name ds) (flat_map names_in_symbol p.symbols) y
      (side_named p.symbols y (subst (λ (l : GrammarSymbols Text). Among l (GrammarSymbol.nonterminal y)) (sym w.3) i)) marked)

  module _ (order : List Text) (all : HasAllInlined ds order) (once : HasNameOnce order) (first : HasNamedFirst ds order) where
    -- what is to be inlined in the nonterminal, or in one before it, is inlined before it
    inlined_first : (front : List Text) (n : Text) (ns : List Text) → order ≡ front ++ n ∷ ns →
        NamesInlinedFirst (ProducesByAction ds) (λ x. Among front x) (λ x. is_inlined_name ds x ≡ true) n
    inlined_first front n ns e x choice side y (inl i) w j marked =
        let a = around front x i in
        let split : order ≡ a.front ++ x ∷ (a.back ++ n ∷ ns) =
        e ∙ ap (λ l. l ++ n ∷ ns) a.whole ∙ append_assoc a.front (x ∷ a.back) (n ∷ ns) in
        subst (λ (l : List Text). Among l y) (sym a.whole)
        (among_left a.front (x ∷ a.back) y
        (first a.front x (a.back ++ n ∷ ns) y split (named_there x choice side y w j marked)))
    inlined_first front n ns e x choice side y (inr same) w j marked =
        first front n ns y e
        (subst (λ (z : Text). Among (inlined_named_by ds z) y) same (named_there x choice side y w j marked))

    -- so it never names itself then
    never : (front : List Text) (n : Text) (ns : List Text) → order ≡ front ++ n ∷ ns →
        NeverNamesItself (ProducesByAction ds) (λ x. Among front x) n
    never front n ns e =
        never_names (ProducesByAction ds) (λ x. Among front x) (λ x. is_inlined_name ds x ≡ true) n
        ((all n).1 (subst (λ (a : List Text). Among a n) (sym e) (among_right front (n ∷ ns) n (inl refl))))
        (inlined_first front n ns e)

    labels_of_steps : (ns front : List Text) → order ≡ front ++ ns → (es : NonterminalEntries) (k : ℕ) (lab : ℕ → Label Text ℕ) →
        AreEntriesAt ds lab front es k → AreLabelsOfSteps ds lab front ns es k
    labels_of_steps [] front e es k lab h = record { labels = lab; agree = λ i l. refl; reached = only }
      where
        only : (f b : List Text) → [] ≡ f ++ b → AreEntriesAt ds lab (front ++ f) (entries_by f es k) (numbers_after f es k)
        only [] b g = subst (λ (l : List Text). AreEntriesAt ds lab l es k) (sym (append-none front)) h
        only (y ∷ f) b g = (let wrong : [] ≡ y ∷ (f ++ b) = g in cc)
    labels_of_steps (n ∷ ns) front e es k lab h =
        let ps = productions_named es n in
        let ms = all_records_after n ps es in
        let next = labels_put lab k ms in
        let kept : (e : NonterminalString × NonterminalData) (p : Production) → Among es e → Among e.1.productions p →
        lab p.action.0 ≡ next p.action.0 =
        λ d p i j. sym (put_below lab k ms p.action.0 (entries_of_all k es h.below d i p j)) in
        let sources : (p : Production) → Among ps p → lab p.action.0 ≡ next p.action.0 =
        λ p i. kept (named_stands es n p i).0 p (named_stands es n p i).1 (named_stands es n p i).2 in
        let here : AreEntriesAt ds next front es k = relabelled lab next front es k (λ i l. put_below lab k ms i l) h in
        let from : LabelsFrom next k ms = put_labels lab next k ms (λ i l. refl) (made_same lab next n ps sources es kept) in
        let stepped = step_labels (ProducesByAction ds) (λ x. Among front x) next n es (once front n ns e).0 (never front n ns e)
        here.are k from in
        let behind : AreEntriesAt ds next (front ++ n ∷ []) (entries_after n ps es k) (k + length ms) =
        record {
          are = same_productions (ProducesByAction ds) next (entries_after n ps es k) front n stepped;
          below = entries_below (k + length ms) n ps es k (λ a d u j p v. omega (arith, h.below a d u j p v)) (omega arith);
          sorted = sorted_on n ps es k h.sorted;
        } in
        let r = labels_of_steps ns (front ++ n ∷ []) (e ∙ sym (append_assoc front (n ∷ []) ns)) (entries_after n ps es k)
        (k + length ms) next behind in
        let agree : (i : ℕ) → i < k → r.labels i ≡ lab i = λ i l. r.agree i (omega (arith, l)) ∙ put_below lab k ms i l in
        record {
          labels = r.labels;
          agree = agree;
          reached = reached_on r.labels n ns front es k (relabelled lab r.labels front es k agree h) r.reached;
        }

    -- where the actions of the given productions are different numbers below one, all steps have labels
    pub all_labels : (k : ℕ) (lab : ℕ → Label Text ℕ) →
        ((n : Text) (p : Production) → Among (productions_named ds n) p →
        lab p.action.0 ≡ label_given n p.action.0 (side_by_names p.symbols)) →
        StandOnce (production_actions ds) → All (AreBelow k) ds → AreSorted ds → AreLabelsOfSteps ds lab [] order ds k
    all_labels k lab given own below sorted =
        labels_of_steps order [] refl ds k lab (record {
          are = given_labels ds lab (λ x. Among [] x) (λ x i. i) given own;
          below = below;
          sorted = sorted;
        })
