-- Productions under labels, before and after a step: all and no other, each label once.
use Rattle.std.proofs.Common.{◌≡◌, ◌+◌, ◌∙◌, ℕ, List, [], ◌∷◌, ap, refl, sym, subst, true, false, inl, inr}
use Rattle.std.proofs.Common.{length, map}
use Rattle.std.specs.Prelude.{Bool, flat_map, if◌then◌else◌}
use Rattle.std.specs.List.{list_any}
use Rattle.std.proofs.lemmas.List.{map-append}
use Rattle.lalrpop_grammar_symbols.specs.Symbols.{Text}
use Rattle.lalrpop_grammar_language.specs.Among.{Among}
use Rattle.lalrpop_grammar_language.proofs.PlaceLemmas.{among_map}
use Rattle.lalrpop_grammar_repr.specs.declared.action.InlinedSymbol.{InlinedSymbol}
use Rattle.lalrpop_grammar_repr.specs.declared.action.InlinedSymbol.TheVariants as inlined
use Rattle.lalrpop_grammar_repr.specs.declared.production.Production.{Production}
use Rattle.lalrpop_grammar_repr.specs.declared.production.Symbol.{Symbol}
use Rattle.lalrpop_grammar_language.specs.Labels.{BaseProductions, GrammarSymbols, Inlinings, Label}
use Rattle.lalrpop_grammar_language.specs.Inlining.{Inlines}
use Rattle.lalrpop_grammar_language.specs.Steps.{IsRecord, NeverNamesItself, OneMore, label_with, record_inlinings}
use Rattle.lalrpop_grammar_language.specs.Steps.{symbols_after, symbols_before}
use Rattle.lalrpop_grammar_language.proofs.StepLawLemmas.{step_makes, step_reaches}
use Rattle.lalrpop_grammar_language.proofs.StepOnceLemmas.{made_once}
use Rattle.lalrpop_lr1_inline.specs.InlinedNames.{NonterminalEntries}
use Rattle.lalrpop_lr1_inline.specs.InliningSteps.{all_records_after, entries_after, is_place, productions_after, productions_in_place}
use Rattle.lalrpop_lr1_inline.specs.InliningSteps.{production_of_record, productions_named}
use Rattle.lalrpop_lr1_inline.specs.InliningSteps.{productions_of_records, record_entries, records_after}
use Rattle.lalrpop_lr1_inline.specs.InliningSteps.{records_in_place, records_of, side_of_record}
use Rattle.lalrpop_lr1_inline.specs.NamedProductions.{record_by_labels, side_by_names}
use Rattle.lalrpop_grammar_language.proofs.AmongLemmas.{among_flat_map}
use Rattle.lalrpop_lr1_inline.proofs.RecordLabelLemmas.{IsLabelled, record_is, record_listed}
use Rattle.lalrpop_grammar_language.proofs.AmongLemmas.{map_among}
use Rattle.lalrpop_lr1_inline.specs.InlinedLabels.{HasLabelled, StandOnce}
use Rattle.lalrpop_lr1_inline.proofs.MadeLabelLemmas.{LabelsFrom, after_from, after_makes, labels_front, named_after, place_made}
use Rattle.lalrpop_lr1_inline.proofs.MadeLabelLemmas.{IsMadeOf, rest_labels}
use Rattle.lalrpop_lr1_inline.proofs.OnceLemmas.{once-append}

-- the entries are the productions under these labels, where these nonterminals are inlined
pub record AreProductionsBy (M : BaseProductions Text ℕ) (In : Text → Type 0) (lab : ℕ → Label Text ℕ) (es : NonterminalEntries) :
    Type 0 where
  pub sound : (x : Text) (p : Production) → Among (productions_named es x) p → Inlines M In x (lab p.action.0) (side_by_names p.symbols)
  pub all : (x : Text) (label : Label Text ℕ) (side : GrammarSymbols Text) → Inlines M In x label side →
      HasLabelled es lab x label side
  pub once : (x : Text) → StandOnce (map (λ p. lab p.action.0) (productions_named es x))

abbrev label_by : (ℕ → Label Text ℕ) → Production → Label Text ℕ
label_by lab p = lab p.action.0

-- what the records say, each once, where the labels of the inlined productions are
module _ (lab : ℕ → Label Text ℕ) (n : Text) (ps : List Production) (own : StandOnce (map (label_by lab) ps)) where
  abbrev says_of : List InlinedSymbol → Inlinings Text ℕ
  says_of r = record_inlinings (record_by_labels lab r)

  -- what one entry in front of the others says
  abbrev says_first : InlinedSymbol → Inlinings Text ℕ → Inlinings Text ℕ
  says_first (inlined.Original s) rest = Inlinings.kept rest
  says_first (inlined.Inlined action side) rest = Inlinings.inlined (lab action.0) rest

  first_says : (e : InlinedSymbol) (r : List InlinedSymbol) → says_of (e ∷ r) ≡ says_first e (says_of r)
  first_says (inlined.Original s) r = refl
  first_says (inlined.Inlined action side) r = refl

  rest_told : (e : InlinedSymbol) (a b : Inlinings Text ℕ) → says_first e a ≡ says_first e b → a ≡ b
  rest_told (inlined.Original s) a b h = (let f : Inlinings.kept a ≡ Inlinings.kept b = h in cc)
  rest_told (inlined.Inlined action side) a b h =
      (let f : Inlinings.inlined (lab action.0) a ≡ Inlinings.inlined (lab action.0) b = h in cc)

  -- entries that say something different, whatever follows
  abbrev AreApart : List InlinedSymbol → Type 0
  AreApart [] = Unit {0}
  AreApart (e ∷ es) =
      ((d : InlinedSymbol) → Among es d → (a b : Inlinings Text ℕ) → says_first e a ≡ says_first d b → ⊥) × AreApart es

  put_apart : (qs : List Production) → StandOnce (map (label_by lab) qs) →
      AreApart (map (λ (p : Production). inlined.Inlined p.action p.symbols) qs)
  put_apart [] h = tt
  put_apart (q ∷ qs) h = (
    λ d i a b e. first d (among_map (λ (p : Production). inlined.Inlined p.action p.symbols) qs d i) a b e,
    put_apart qs h.1,
  )
    where
      first : (d : InlinedSymbol) →
          (p : Production) × Among qs p × (inlined.Inlined p.action p.symbols ≡ d) → (a b : Inlinings Text ℕ) →
          Inlinings.inlined (lab q.action.0) a ≡ says_first d b → ⊥
      first d w a b e =
          let f : Inlinings.inlined (lab q.action.0) a ≡ Inlinings.inlined (lab w.0.action.0) b =
          e ∙ ap (λ (x : InlinedSymbol). says_first x b) (sym w.2) in
          let same : lab q.action.0 ≡ lab w.0.action.0 = cc in
          h.0 (subst (λ (l : Label Text ℕ). Among (map (label_by lab) qs) l) (sym same) (map_among (label_by lab) qs w.0 w.1))

  entries_apart : (s : Symbol) → AreApart (record_entries n ps s)
  entries_apart s = go (is_place n s)
    where
      go : (b : Bool) →
          AreApart (if b then map (λ (p : Production). inlined.Inlined p.action p.symbols) ps else inlined.Original s ∷ [])
      go true = put_apart ps own
      go false = (λ d i. absurd i, tt)

  abbrev in_front : InlinedSymbol → List (List InlinedSymbol) → List (List InlinedSymbol)
  in_front e rs = map (λ r. e ∷ r) rs

  front_once : (e : InlinedSymbol) (rs : List (List InlinedSymbol)) → StandOnce (map says_of rs) →
      StandOnce (map says_of (in_front e rs))
  front_once e [] h = tt
  front_once e (r ∷ rs) h = (
    λ i.
        let w = among_map says_of (in_front e rs) (says_of (e ∷ r)) i in
        let v = among_map (λ (q : List InlinedSymbol). e ∷ q) rs w.0 w.1 in
        let same : says_of (e ∷ v.0) ≡ says_of (e ∷ r) = ap says_of v.2 ∙ w.2 in
        let rest : says_of v.0 ≡ says_of r =
        rest_told e (says_of v.0) (says_of r) (sym (first_says e v.0) ∙ same ∙ first_says e r) in
        h.0 (subst (λ (l : Inlinings Text ℕ). Among (map says_of rs) l) rest (map_among says_of rs v.0 v.1)),
    front_once e rs h.1,
  )

  all_once : (es : List InlinedSymbol) (rs : List (List InlinedSymbol)) → AreApart es → StandOnce (map says_of rs) →
      StandOnce (map says_of (flat_map (λ e. in_front e rs) es))
  all_once [] rs apart h = tt
  all_once (e ∷ es) rs apart h =
      subst (λ (l : List (Inlinings Text ℕ)). StandOnce l) (sym (map-append says_of (in_front e rs) (flat_map (λ d. in_front d rs) es)))
      (once-append (map says_of (in_front e rs)) (map says_of (flat_map (λ d. in_front d rs) es)) (front_once e rs h)
      (all_once es rs apart.1 h)
      (λ x i j.
      let a = among_map says_of (in_front e rs) x i in
      let b = among_map (λ (q : List InlinedSymbol). e ∷ q) rs a.0 a.1 in
      let c = among_map says_of (flat_map (λ d. in_front d rs) es) x j in
      let d = among_flat_map (λ y. in_front y rs) es c.0 c.1 in
      let f = among_map (λ (q : List InlinedSymbol). d.0 ∷ q) rs c.0 d.2 in
      let same : says_of (e ∷ b.0) ≡ says_of (d.0 ∷ f.0) =
      ap says_of b.2 ∙ a.2 ∙ sym (ap says_of f.2 ∙ c.2) in
      apart.0 d.0 d.1 (says_of b.0) (says_of f.0) (sym (first_says e b.0) ∙ same ∙ first_says d.0 f.0)))

  pub records_once : (side : List Symbol) → StandOnce (map (λ r. record_inlinings (record_by_labels lab r)) (records_of n ps side))
  records_once [] = (λ i. i, tt)
  records_once (s ∷ side) = all_once (record_entries n ps s) (records_of n ps side) (entries_apart s) (records_once side)

module _ (M : BaseProductions Text ℕ) (In : Text → Type 0) (lab : ℕ → Label Text ℕ) (n : Text) (es : NonterminalEntries)
    (fresh : In n → ⊥) (never : NeverNamesItself M In n) (are : AreProductionsBy M In lab es) where
  abbrev sources : List Production
  sources = productions_named es n

  abbrev Data : List Symbol → List InlinedSymbol → Type 0
  Data side r =
      IsRecord M In n (record_by_labels lab r) × (symbols_before n (record_by_labels lab r) ≡ side_by_names side)
      × (symbols_after (record_by_labels lab r) ≡ side_by_names (side_of_record r))

  record_data : (side : List Symbol) (r : List InlinedSymbol) → Among (records_of n sources side) r → Data side r
  record_data side r i = record_is M In n sources lab (are.sound n) side r i

  before_made : (x : Text) (q : Production) → Among (productions_named es x) q → (r : List InlinedSymbol) → Data q.symbols r →
      Inlines M In x (lab q.action.0) (symbols_before n (record_by_labels lab r))
  before_made x q i r d = subst (λ (s : GrammarSymbols Text). Inlines M In x (lab q.action.0) s) (sym d.1) (are.sound x q i)

  -- what is made of a production is one with the nonterminal inlined too
  made_sound : (x : Text) (q : Production) → Among (productions_named es x) q → (r : List InlinedSymbol) (made : Production) →
      IsMadeOf lab n sources q r made → Inlines M (OneMore In n) x (lab made.action.0) (side_by_names made.symbols)
  made_sound x q i r made m =
      let d = record_data q.symbols r m.is_record in
      let whole = step_makes M In n never x (lab q.action.0) (record_by_labels lab r) (before_made x q i r d) d.0 in
      let side : symbols_after (record_by_labels lab r) ≡ side_by_names made.symbols = d.2 ∙ ap side_by_names (sym m.symbols_are) in
      subst (λ (l : Label Text ℕ). Inlines M (OneMore In n) x l (side_by_names made.symbols)) (sym m.label_is)
      (subst (λ (s : GrammarSymbols Text). Inlines M (OneMore In n) x (label_with (lab q.action.0) (record_by_labels lab r)) s) side
      whole.1)

  -- one label tells the production and what the record says
  one_origin : (x : Text) (p q : Production) → Among (productions_named es x) p → Among (productions_named es x) q →
      (r t : List InlinedSymbol) (a b : Production) → IsMadeOf lab n sources p r a → IsMadeOf lab n sources q t b →
      lab a.action.0 ≡ lab b.action.0 →
      (lab p.action.0 ≡ lab q.action.0)
      × (record_inlinings (record_by_labels lab r) ≡ record_inlinings (record_by_labels lab t))
  one_origin x p q i j r t a b m w same =
      let d = record_data p.symbols r m.is_record in
      let e = record_data q.symbols t w.is_record in
      made_once M In n fresh x (lab p.action.0) (lab q.action.0) (record_by_labels lab r) (record_by_labels lab t)
      (before_made x p i r d) (before_made x q j t e) d.0 e.0 (sym m.label_is ∙ same ∙ w.label_is)

  -- the record that makes a production, with its label and its right side
  each_from : (q : Production) (rs : List (List InlinedSymbol)) (k : ℕ) → LabelsFrom lab k (map (λ r. (q, r)) rs) →
      (made : Production) → Among (productions_of_records q rs k) made →
      (r : List InlinedSymbol) × Among rs r × (lab made.action.0 ≡ label_with (lab q.action.0) (record_by_labels lab r))
      × (made.symbols ≡ side_of_record r)
  each_from q [] k h made i = absurd i
  each_from q (r ∷ rs) k h made (inl e) = (
    r,
    inl refl,
    ap (λ (x : Production). lab x.action.0) (sym e) ∙ h.0,
    ap (λ (x : Production). x.symbols) (sym e),
  )
  each_from q (r ∷ rs) k h made (inr i) =
      let w = each_from q rs (k + 1) h.1 made i in
      (w.0, inr w.1, w.2, w.3)

  -- the labels of what records make of one production stand once
  made_labels_once : (x : Text) (q : Production) → Among (productions_named es x) q → (rs : List (List InlinedSymbol)) (k : ℕ) →
      LabelsFrom lab k (map (λ r. (q, r)) rs) →
      ((r : List InlinedSymbol) → Among rs r → Among (records_of n sources q.symbols) r) →
      StandOnce (map (λ r. record_inlinings (record_by_labels lab r)) rs) →
      StandOnce (map (label_by lab) (productions_of_records q rs k))
  made_labels_once x q i [] k h all once = tt
  made_labels_once x q i (r ∷ rs) k h all once = (
    λ j.
        let w = among_map (label_by lab) (productions_of_records q rs (k + 1)) (lab k) j in
        let v = each_from q rs (k + 1) h.1 w.0 w.1 in
        let here : IsMadeOf lab n sources q r (production_of_record q r k) =
        record { is_record = all r (inl refl); label_is = h.0; symbols_are = refl } in
        let there : IsMadeOf lab n sources q v.0 w.0 =
        record { is_record = all v.0 (inr v.1); label_is = v.2; symbols_are = v.3 } in
        let same = one_origin x q q i i v.0 r w.0 (production_of_record q r k) there here w.2 in
        once.0 (subst (λ (l : Inlinings Text ℕ). Among (map (λ t. record_inlinings (record_by_labels lab t)) rs) l) same.1
        (map_among (λ t. record_inlinings (record_by_labels lab t)) rs v.0 v.1)),
    made_labels_once x q i rs (k + 1) h.1 (λ t j. all t (inr j)) once.1,
  )

  place_once : (x : Text) (q : Production) → Among (productions_named es x) q → (k : ℕ) →
      LabelsFrom lab k (map (λ r. (q, r)) (records_in_place n sources q)) →
      StandOnce (map (label_by lab) (productions_in_place n sources q k))
  place_once x q i k = go (list_any (is_place n) q.symbols)
    where
      go : (b : Bool) → LabelsFrom lab k (map (λ r. (q, r)) (if b then records_of n sources q.symbols else [])) →
          StandOnce (map (label_by lab) (if b then productions_of_records q (records_of n sources q.symbols) k else q ∷ []))
      go true h =
          made_labels_once x q i (records_of n sources q.symbols) k h (λ r j. j) (records_once lab n sources (are.once n) q.symbols)
      go false h = (λ j. j, tt)

  sides_once : (x : Text) (qs : List Production) →
      ((q : Production) → Among qs q → Among (productions_named es x) q) → (k : ℕ) →
      LabelsFrom lab k (records_after n sources qs) → StandOnce (map (label_by lab) qs) →
      StandOnce (map (label_by lab) (productions_after n sources qs k))
  sides_once x [] inside k h once = tt
  sides_once x (q ∷ qs) inside k h once =
      let front = productions_in_place n sources q k in
      let j = k + length (records_in_place n sources q) in
      let back = productions_after n sources qs j in
      let first = labels_front lab k (map (λ r. (q, r)) (records_in_place n sources q)) (records_after n sources qs) h in
      let rest = rest_labels lab n sources q qs k h in
      subst (λ (l : List (Label Text ℕ)). StandOnce l) (sym (map-append (label_by lab) front back))
      (once-append (map (label_by lab) front) (map (label_by lab) back) (place_once x q (inside q (inl refl)) k first)
      (sides_once x qs (λ p i. inside p (inr i)) j rest once.1)
      (λ l u v.
      let a = among_map (label_by lab) front l u in
      let b = among_map (label_by lab) back l v in
      let c = place_made lab n sources q k first a.0 a.1 in
      let d = after_from lab n sources qs j rest b.0 b.1 in
      let same = one_origin x q d.old (inside q (inl refl)) (inside d.old (inr d.stands)) c.entries d.is_made.entries a.0 b.0 c.is_made
      d.is_made.is_made (a.2 ∙ sym b.2) in
      once.0 (subst (λ (z : Label Text ℕ). Among (map (label_by lab) qs) z) (sym same.0)
      (map_among (label_by lab) qs d.old d.stands))))

  listed : (label : Label Text ℕ) (side : GrammarSymbols Text) → Inlines M In n label side → IsLabelled M In n sources lab label side
  listed label side i =
      let q = are.all n label side i in
      record { production = q.production; is_one = q.stands; label_is = q.label_is; side_is = q.side_is }

  -- the productions after the step
  pub step_labels : (k : ℕ) → LabelsFrom lab k (all_records_after n sources es) →
      AreProductionsBy M (OneMore In n) lab (entries_after n sources es k)
  step_labels k h = record {
    sound = λ x p i.
        let w = named_after lab n sources es k x h in
        let f = after_from lab n sources (productions_named es x) w.first w.labels_are p
        (subst (λ (l : List Production). Among l p) w.productions_are i) in
        made_sound x f.old f.stands f.is_made.entries p f.is_made.is_made;
    all = λ x label side i.
        let b = step_reaches M In n fresh never x label side i in
        let q = are.all x b.old_label (symbols_before n b.symbols) b.produced in
        let r = record_listed M In n sources lab listed q.production.symbols b.symbols b.is_record (sym q.side_is) in
        let w = named_after lab n sources es k x h in
        let m = after_makes lab n sources (productions_named es x) w.first w.labels_are q.production q.stands r.entries r.is_one in
        let d = record_data q.production.symbols r.entries r.is_one in
        record {
          production = m.made;
          stands = subst (λ (l : List Production). Among l m.made) (sym w.productions_are) m.stands;
          label_is = m.is_made.label_is ∙ ap (λ l. label_with l (record_by_labels lab r.entries)) q.label_is
              ∙ ap (label_with b.old_label) r.says ∙ sym b.label_is;
          side_is = ap side_by_names m.is_made.symbols_are ∙ sym d.2 ∙ ap symbols_after r.says ∙ sym b.side_is;
        };
    once = λ x.
        let w = named_after lab n sources es k x h in
        subst (λ (l : List Production). StandOnce (map (label_by lab) l)) (sym w.productions_are)
        (sides_once x (productions_named es x) (λ q i. i) w.first w.labels_are (are.once x));
  }
