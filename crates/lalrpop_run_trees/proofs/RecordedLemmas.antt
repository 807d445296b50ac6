-- What is still to be kept of parts while the symbols of a record are gone through, and what one symbol keeps; for the code.
use Rattle.std.proofs.Common.{◌≡◌, ◌+◌, ◌<◌, ◌≤◌, ℕ, zero, suc, List, [], ◌∷◌, ◌++◌, length}
use Rattle.std.proofs.Common.{refl, ap, sym, ◌∙◌, arith, subst, append_assoc, map}
use Rattle.std.specs.Prelude.{Err, IfOk, None, Ok, Option, Result, Some, Vec, drop, slice_get}
use Rattle.std.specs.declared.alloc.Global.{Global}
use Rattle.std.proofs.lemmas.List.{append-nil, length-map, map-append}
use Rattle.std.proofs.lemmas.Option.{slice_get_within}
use Rattle.std.proofs.Math.ListN.{drop_of_length-le}
use Rattle.lalrpop_grammar.specs.Trees.{Tree}
use Rattle.lalrpop_grammar.specs.Views.{origin_view}
use Rattle.lalrpop_grammar.specs.WrittenGrammar.{Origin}
use Rattle.lalrpop_grammar_language.specs.Expansion.{Nonterminal}
use Rattle.lalrpop_grammar.specs.declared.origin.Origin as choices
use Rattle.lalrpop_grammar_repr.specs.declared.action.ActionFn.{ActionFn}
use Rattle.lalrpop_grammar_repr.specs.declared.action.ActionFnDefn.{ActionFnDefn}
use Rattle.lalrpop_grammar_repr.specs.declared.action.InlineActionFnDefn.{InlineActionFnDefn}
use Rattle.lalrpop_grammar_repr.specs.declared.action.InlinedSymbol.{InlinedSymbol}
use Rattle.lalrpop_grammar_repr.specs.declared.action.InlinedSymbol.TheVariants as symbols
use Rattle.lalrpop_grammar_repr.specs.declared.production.Symbol.{Symbol}
use Rattle.lalrpop_grammar_language.specs.Labels.{Inlinings, Label}
use Rattle.lalrpop_run_trees.specs.ActionLabels.{ChoiceInlinings, ChoiceLabel, IsRecordOf, TellEntries, TellsLabel, all_kept}
use Rattle.lalrpop_run_trees.specs.ActionLabels.{kept_count, label_of_entries}
use Rattle.lalrpop_run_trees.proofs.FillLemmas.{symbol_count}
use Rattle.lalrpop_run_trees.proofs.ToldLemmas.{entries_for, inlined_entry, kept_entry, one_record, told_count}
use Rattle.lalrpop_run_trees.specs.KeptTrees.{AreAllKeptBy, AreKeptBy}
use Rattle.lalrpop_run_trees.specs.PartViews.{TellsAllKept, TellsChildren, TellsKept, shown_part}
use Rattle.lalrpop_run_trees.specs.declared.tree_parts.tree_part.TreePart.{TreePart}
use Rattle.lalrpop_run_trees.proofs.ChildrenLemmas.{children_once}
use Rattle.lalrpop_run_trees.proofs.FilledKeptLemmas.{filled_is_kept, kept_by_filled}
use Rattle.lalrpop_run_trees.proofs.KeptLemmas.{cons_same, kept_once}

module _ (actions : List ActionFnDefn) (origins : List choices.Origin) (below : ℕ) where
  -- With these symbols left, and these parts: what was kept, and what is kept of these, is what the entries keep of all; and all that
  -- they keep is of this form.
  pub record AreToKeep (left : List InlinedSymbol) (parts kept : List TreePart) (whole : ChoiceInlinings)
      (all : List TreePart) : Type 0 where
    pub entries : ChoiceInlinings
    pub count : ℕ
    pub told : TellEntries actions origins below left count entries
    pub onward : (rest : List Tree) → AreAllKeptBy entries (map shown_part parts) rest
        → AreAllKeptBy whole (map shown_part all) (map shown_part kept ++ rest)
    pub back : (us : List Tree) → AreAllKeptBy whole (map shown_part all) us
        → (rest : List Tree) × AreAllKeptBy entries (map shown_part parts) rest

  -- before the first symbol
  pub keep_first : (symbols : List InlinedSymbol) (parts : List TreePart) (count : ℕ) (entries : ChoiceInlinings) →
      TellEntries actions origins below symbols count entries → AreToKeep symbols parts [] entries parts
  keep_first symbols parts count entries told = record {
    entries = entries;
    count = count;
    told = told;
    onward = λ rest h. h;
    back = λ us h. (us, h);
  }

  -- The entries of a record in two parts: that of its first symbol, and the others.
  record AreSplit (s : InlinedSymbol) (rest : List InlinedSymbol) (entries : ChoiceInlinings) : Type 0 where
    first : ChoiceInlinings
    first_count : ℕ
    others : ChoiceInlinings
    other_count : ℕ
    first_told : TellEntries actions origins below (s ∷ []) first_count first
    others_told : TellEntries actions origins below rest other_count others
    joined : (u : Tree) (cs front left : List Tree) → AreAllKeptBy first (u ∷ []) front → AreAllKeptBy others cs left
        → AreAllKeptBy entries (u ∷ cs) (front ++ left)
    parted : (u : Tree) (cs us : List Tree) → AreAllKeptBy entries (u ∷ cs) us
        → (front : List Tree) × (left : List Tree) × AreAllKeptBy first (u ∷ []) front × AreAllKeptBy others cs left

  split : (s : InlinedSymbol) (rest : List InlinedSymbol) (count : ℕ) (entries : ChoiceInlinings) →
      TellEntries actions origins below (s ∷ rest) count entries → AreSplit s rest entries
  split s rest count entries (TellEntries.kept b s2 rest2 n es h) =
      record {
        first = Inlinings.kept Inlinings.none;
        first_count = 1;
        others = es;
        other_count = n;
        first_told = TellEntries.kept below s2 [] 0 Inlinings.none (TellEntries.none below);
        others_told = h;
        joined = λ u cs front left a b2.
            let c = cons_same a.first u a.others [] (sym a.children_are) in
            record {
              first = u;
              others = cs;
              left = left;
              children_are = refl;
              trees_are = ap (λ l. l ++ left) (a.trees_are ∙ ap (λ l. a.first ∷ l) a.rest.1 ∙ ap (λ x. x ∷ []) c.0);
              rest = b2;
            };
        parted = λ u cs us a.
            let c = cons_same a.first u a.others cs (sym a.children_are) in (
              u ∷ [],
              a.left,
              record { first = u; others = []; left = []; children_are = refl; trees_are = refl; rest = (refl, refl) },
              subst (λ l. AreAllKeptBy es l a.left) c.1 a.rest,
            );
      }
  split s rest count entries (TellEntries.inlined b action side label rest2 n es less t h) =
      record {
        first = Inlinings.inlined label Inlinings.none;
        first_count = length side + 0;
        others = es;
        other_count = n;
        first_told = TellEntries.inlined below action side label [] 0 Inlinings.none less t (TellEntries.none below);
        others_told = h;
        joined = λ u cs front left a b2.
            let c = cons_same a.first u a.others [] (sym a.children_are) in
            record {
              first = u;
              others = cs;
              front = a.front;
              left = left;
              children_are = refl;
              trees_are = ap (λ l. l ++ left) (a.trees_are ∙ ap (λ l. a.front ++ l) a.rest.1 ∙ append-nil a.front);
              kept = subst (λ x. AreKeptBy label x a.front) c.0 a.kept;
              rest = b2;
            };
        parted = λ u cs us a.
            let c = cons_same a.first u a.others cs (sym a.children_are) in (
              a.front,
              a.left,
              record {
                first = u;
                others = [];
                front = a.front;
                left = [];
                children_are = refl;
                trees_are = sym (append-nil a.front);
                kept = subst (λ x. AreKeptBy label x a.front) c.0 a.kept;
                rest = (refl, refl);
              },
              subst (λ l. AreAllKeptBy es l a.left) c.1 a.rest,
            );
      }

  -- behind a symbol of which something is kept
  pub keep_on : (s : InlinedSymbol) (left : List InlinedSymbol) (q : TreePart) (parts kept more new : List TreePart)
      (whole : ChoiceInlinings)
      (all : List TreePart) → AreToKeep (s ∷ left) (q ∷ parts) kept whole all →
      ((count : ℕ) (entries : ChoiceInlinings) → TellEntries actions origins below (s ∷ []) count entries →
      AreAllKeptBy entries (shown_part q ∷ []) (map shown_part more)) → new ≡ kept ++ more → AreToKeep left parts new whole all
  keep_on s left q parts kept more new whole all k one new_is =
      let p = split s left k.count k.entries k.told in
      record {
        entries = p.others;
        count = p.other_count;
        told = p.others_told;
        onward = λ rest h.
            subst (λ l. AreAllKeptBy whole (map shown_part all) l)
            (sym (append_assoc (map shown_part kept) (map shown_part more) rest)
            ∙ ap (λ l. l ++ rest) (sym (map-append shown_part kept more) ∙ ap (λ l. map shown_part l) (sym new_is)))
            (k.onward (map shown_part more ++ rest)
            (p.joined (shown_part q) (map shown_part parts) (map shown_part more) rest (one p.first_count p.first p.first_told) h));
        back = λ us h.
            let r = k.back us h in
            let a = p.parted (shown_part q) (map shown_part parts) r.0 r.1 in
            (a.1, a.3);
      }

  -- where of one symbol nothing can be kept, of none can be
  pub keep_none : (s : InlinedSymbol) (left : List InlinedSymbol) (q : TreePart) (parts kept : List TreePart) (whole : ChoiceInlinings)
      (all : List TreePart) → AreToKeep (s ∷ left) (q ∷ parts) kept whole all →
      ((count : ℕ) (entries : ChoiceInlinings) → TellEntries actions origins below (s ∷ []) count entries →
      (us : List Tree) → AreAllKeptBy entries (shown_part q ∷ []) us → ⊥) → (us : List Tree) →
      AreAllKeptBy whole (map shown_part all) us → ⊥
  keep_none s left q parts kept whole all k none us h =
      let p = split s left k.count k.entries k.told in
      let r = k.back us h in
      let a = p.parted (shown_part q) (map shown_part parts) r.0 r.1 in
      none p.first_count p.first p.first_told a.0 a.2

  no_symbols : (count : ℕ) (entries : ChoiceInlinings) → TellEntries actions origins below [] count entries →
      entries ≡ Inlinings.none
  no_symbols count entries (TellEntries.none b) = refl

  -- a turn of the loop
  pub keep_turn : (all : List InlinedSymbol) (parts : List TreePart) (i : ℕ) (s : InlinedSymbol) (q : TreePart) →
      drop i all ≡ s ∷ drop (i + 1) all → drop i parts ≡ q ∷ drop (i + 1) parts → (kept more new : List TreePart) →
      (whole : ChoiceInlinings) → AreToKeep (drop i all) (drop i parts) kept whole parts →
      ((count : ℕ) (entries : ChoiceInlinings) → TellEntries actions origins below (s ∷ []) count entries →
      AreAllKeptBy entries (shown_part q ∷ []) (map shown_part more)) → new ≡ kept ++ more →
      AreToKeep (drop (i + 1) all) (drop (i + 1) parts) new whole parts
  keep_turn all parts i s q here there kept more new whole k one new_is =
      keep_on s (drop (i + 1) all) q (drop (i + 1) parts) kept more new whole parts
      (subst (λ l. AreToKeep l (q ∷ drop (i + 1) parts) kept whole parts) here
      (subst (λ l. AreToKeep (drop i all) l kept whole parts) there k)) one new_is

  pub keep_stop : (all : List InlinedSymbol) (parts : List TreePart) (i : ℕ) (s : InlinedSymbol) (q : TreePart) →
      drop i all ≡ s ∷ drop (i + 1) all → drop i parts ≡ q ∷ drop (i + 1) parts → (kept : List TreePart) →
      (whole : ChoiceInlinings) → AreToKeep (drop i all) (drop i parts) kept whole parts →
      ((count : ℕ) (entries : ChoiceInlinings) → TellEntries actions origins below (s ∷ []) count entries →
      (us : List Tree) → AreAllKeptBy entries (shown_part q ∷ []) us → ⊥) → (us : List Tree) →
      AreAllKeptBy whole (map shown_part parts) us → ⊥
  keep_stop all parts i s q here there kept whole k none us h =
      keep_none s (drop (i + 1) all) q (drop (i + 1) parts) kept whole parts
      (subst (λ l. AreToKeep l (q ∷ drop (i + 1) parts) kept whole parts) here
      (subst (λ l. AreToKeep (drop i all) l kept whole parts) there k)) none us h

  -- behind the last
  pub keep_last : (kept : List TreePart) (whole : ChoiceInlinings) (all : List TreePart) → AreToKeep [] [] kept whole all →
      AreAllKeptBy whole (map shown_part all) (map shown_part kept)
  keep_last kept whole all k =
      let none = no_symbols k.count k.entries k.told in
      subst (λ l. AreAllKeptBy whole (map shown_part all) l) (append-nil (map shown_part kept))
      (k.onward [] (subst (λ e. AreAllKeptBy e [] []) (sym none) (refl, refl)))

  pub keep_end : (all : List InlinedSymbol) (parts : List TreePart) (i : ℕ) → length all ≤ i → length parts ≤ i →
      (kept : List TreePart) →
      (whole : ChoiceInlinings) → AreToKeep (drop i all) (drop i parts) kept whole parts →
      AreAllKeptBy whole (map shown_part parts) (map shown_part kept)
  keep_end all parts i past beyond kept whole k =
      keep_last kept whole parts
      (subst (λ l. AreToKeep l [] kept whole parts) (drop_of_length-le all past)
      (subst (λ l. AreToKeep (drop i all) l kept whole parts) (drop_of_length-le parts beyond) k))

  -- as many trees are needed as there are symbols
  pub kept_symbols : (symbols : List InlinedSymbol) (count : ℕ) (entries : ChoiceInlinings) →
      TellEntries actions origins below symbols count entries → (cs us : List Tree) → AreAllKeptBy entries cs us →
      length cs ≡ length symbols
  kept_symbols symbols count entries (TellEntries.none b) cs us h = ap length h.0
  kept_symbols symbols count entries (TellEntries.kept b s rest n es t) cs us h =
      ap length h.children_are ∙ ap suc (kept_symbols rest n es t h.others h.left h.rest)
  kept_symbols symbols count entries (TellEntries.inlined b action side label rest n es less told t) cs us h =
      ap length h.children_are ∙ ap suc (kept_symbols rest n es t h.others h.left h.rest)

-- where all symbols are kept, all trees stay, one for each
pub all_stay : (n : ℕ) (us : List Tree) → length us ≡ n → AreAllKeptBy (all_kept n) us us
all_stay zero [] e = (refl, refl)
all_stay zero (u ∷ us) e = absurd (omega (arith, e))
all_stay (suc n) [] e = absurd (omega (arith, e))
all_stay (suc n) (u ∷ us) e = record {
  first = u;
  others = us;
  left = us;
  children_are = refl;
  trees_are = refl;
  rest = all_stay n us (omega (arith, e));
}

pub all_stayed : (n : ℕ) (cs us : List Tree) → AreAllKeptBy (all_kept n) cs us → length cs ≡ n
all_stayed zero cs us h = ap length h.0
all_stayed (suc n) cs us h = ap length h.children_are ∙ ap suc (all_stayed n h.others h.left h.rest)

-- what a given choice keeps are its children, as many as it has symbols
module _ (x : Nonterminal) (o : Origin) (count : ℕ) (q : TreePart) where
  pub some_kept : (qs : Vec TreePart Global) → TellsChildren o q (Some qs) → length qs.items ≡ count →
      TellsKept (Label.choose x o (all_kept count)) q (Some qs)
  some_kept qs h e =
      (map shown_part qs.items, h, all_stay count (map shown_part qs.items) (length-map qs.items shown_part ∙ e))

  pub none_kept : TellsChildren o q None → TellsKept (Label.choose x o (all_kept count)) q None
  none_kept h = λ us k. h k.0 k.1

  pub other_kept : (qs : Vec TreePart Global) → TellsChildren o q (Some qs) → (length qs.items ≡ count → ⊥) →
      TellsKept (Label.choose x o (all_kept count)) q None
  other_kept qs h other = λ us k.
      let same : k.0 ≡ map shown_part qs.items = children_once o (shown_part q) k.0 (map shown_part qs.items) k.1 h in
      other (sym (length-map qs.items shown_part) ∙ ap length (sym same) ∙ all_stayed count k.0 us k.2)

-- What an action that inlining added is made of: its label is that of another action, filled by its record.
pub record IsFilled (actions : List ActionFnDefn) (origins : List choices.Origin) (k count : ℕ) (label : ChoiceLabel) : Type 0 where
  pub record_of : InlineActionFnDefn
  pub is_record : IsRecordOf actions k record_of
  pub less : record_of.action.0 < k
  pub outer : ChoiceLabel
  pub entries : ChoiceInlinings
  pub outer_told : TellsLabel actions origins record_of.action.0 (length record_of.symbols) outer
  pub entries_told : TellEntries actions origins k record_of.symbols count entries
  pub label_is : label ≡ label_of_entries outer entries
  pub counted : symbol_count entries ≡ kept_count outer

pub filled_label : (actions : List ActionFnDefn) (origins : List choices.Origin) (k count : ℕ) (label : ChoiceLabel) →
    TellsLabel actions origins k count label → slice_get origins k ≡ None → IsFilled actions origins k count label
filled_label actions origins k count label (TellsLabel.given k2 n x o at) e = absurd (cc)
filled_label actions origins k count label (TellsLabel.made k2 n d i outer entries from at kind less told tell) e =
    record {
      record_of = i;
      is_record = record { definition = d; at = at; kind_is = kind };
      less = less;
      outer = outer;
      entries = entries;
      outer_told = told;
      entries_told = tell;
      label_is = refl;
      counted = entries_for actions origins k2 i.symbols n entries tell
          ∙ sym (told_count actions origins i.action.0 (length i.symbols) outer told);
    }

-- a given action's label is that of its choice
pub given_label : (actions : List ActionFnDefn) (origins : List choices.Origin) (k count : ℕ) (label : ChoiceLabel) →
    TellsLabel actions origins k count label → (o : choices.Origin) → slice_get origins k ≡ Some o →
    (x : Nonterminal) × (label ≡ Label.choose x (origin_view o) (all_kept count))
given_label actions origins k count label (TellsLabel.given k2 n x p at) o e =
    let same : p ≡ o = cc in (x, ap (λ c. Label.choose x (origin_view c) (all_kept n)) same)
given_label actions origins k count label (TellsLabel.made k2 n d i outer entries from at kind less told tell) o e =
    absurd (omega (arith, from, slice_get_within origins k2 o e))

module _ (actions : List ActionFnDefn) (origins : List choices.Origin) (k count : ℕ) (label : ChoiceLabel) (q : TreePart)
    (told : TellsLabel actions origins k count label) where
  -- of a given action
  pub given_kept : {E : Type 0} (o : choices.Origin) → slice_get origins k ≡ Some o →
      (r : Result (Option (Vec TreePart Global)) E) →
      ((x : Nonterminal) → IfOk r (TellsKept (Label.choose x (origin_view o) (all_kept count)) q)) → IfOk r (TellsKept label q)
  given_kept o e r h =
      let g = given_label actions origins k count label told o e in
      subst (λ l. IfOk r (TellsKept l q)) (sym g.1) (h g.0)

  module _ (none : slice_get origins k ≡ None) where
    -- of one with a record
    pub made_kept : {E : Type 0} (i : InlineActionFnDefn) → IsRecordOf actions k i → (parts : Vec TreePart Global) →
        (symbols : List InlinedSymbol) → symbols ≡ i.symbols → (items : List TreePart) → items ≡ parts.items →
        ((outer : ChoiceLabel) → TellsLabel actions origins i.action.0 (length symbols) outer → TellsKept outer q (Some parts)) →
        (r : Result (Option (Vec TreePart Global)) E) →
        ((n : ℕ) (entries : ChoiceInlinings) → TellEntries actions origins k symbols n entries →
        IfOk r (TellsAllKept entries items)) → IfOk r (TellsKept label q)
    made_kept i is parts symbols symbols_are items items_are outer (Err e) rest = tt
    made_kept i is parts symbols symbols_are items items_are outer (Ok o) rest =
        let f = filled_label actions origins k count label told none in
        let same : f.record_of ≡ i = one_record actions k f.record_of i f.is_record is in
        let symbols_same : f.record_of.symbols ≡ symbols = ap (λ j. j.symbols) same ∙ sym symbols_are in
        let inner : AreKeptBy f.outer (shown_part q) (map shown_part parts.items) =
        outer f.outer (subst (λ a. TellsLabel actions origins a (length symbols) f.outer) (ap (λ j. j.action.0) same)
        (subst (λ l. TellsLabel actions origins f.record_of.action.0 (length l) f.outer) symbols_same f.outer_told)) in
        let left : TellsAllKept f.entries parts.items o =
        subst (λ l. TellsAllKept f.entries l o) items_are
        (rest count f.entries (subst (λ l. TellEntries actions origins k l count f.entries) symbols_same f.entries_told)) in
        subst (λ l. TellsKept l q o) (sym f.label_is) (both f.outer f.entries f.counted o inner left)
      where
        both : (outer2 : ChoiceLabel) (entries : ChoiceInlinings) → symbol_count entries ≡ kept_count outer2 →
            (found : Option (Vec TreePart Global)) → AreKeptBy outer2 (shown_part q) (map shown_part parts.items) →
            TellsAllKept entries parts.items found → TellsKept (label_of_entries outer2 entries) q found
        both outer2 entries counted (Some qs) inner left =
            kept_by_filled outer2 entries counted (shown_part q) (map shown_part parts.items) (map shown_part qs.items) inner left
        both outer2 entries counted None inner left = λ us h.
            let w = filled_is_kept outer2 entries counted (shown_part q) us h in
            left us (subst (λ l. AreAllKeptBy entries l us)
            (kept_once outer2 (shown_part q) w.0 (map shown_part parts.items) w.1 inner) w.2)

    pub made_none : (i : InlineActionFnDefn) → IsRecordOf actions k i → (symbols : List InlinedSymbol) → symbols ≡ i.symbols →
        ((outer : ChoiceLabel) → TellsLabel actions origins i.action.0 (length symbols) outer → TellsKept outer q None) →
        TellsKept label q None
    made_none i is symbols symbols_are outer = λ us h.
        let f = filled_label actions origins k count label told none in
        let same : f.record_of ≡ i = one_record actions k f.record_of i f.is_record is in
        let symbols_same : f.record_of.symbols ≡ symbols = ap (λ j. j.symbols) same ∙ sym symbols_are in
        let w = filled_is_kept f.outer f.entries f.counted (shown_part q) us
        (subst (λ l. AreKeptBy l (shown_part q) us) f.label_is h) in
        outer f.outer (subst (λ a. TellsLabel actions origins a (length symbols) f.outer) (ap (λ j. j.action.0) same)
        (subst (λ l. TellsLabel actions origins f.record_of.action.0 (length l) f.outer) symbols_same f.outer_told)) w.0 w.1

    pub has_record : ((i : InlineActionFnDefn) → IsRecordOf actions k i → ⊥) → ⊥
    has_record without =
        let f = filled_label actions origins k count label told none in without f.record_of f.is_record

    pub record_below : (i : InlineActionFnDefn) → IsRecordOf actions k i → i.action.0 < k
    record_below i is =
        let f = filled_label actions origins k count label told none in
        subst (λ j. j.action.0 < k) (one_record actions k f.record_of i f.is_record is) f.less

-- of one symbol of a record that was inlined
pub inlined_kept : {E : Type 0} (actions : List ActionFnDefn) (origins : List choices.Origin) (below : ℕ) (action : ActionFn)
    (side : List Symbol) (count : ℕ) (entries : ChoiceInlinings) (q : TreePart) (r : Result (Option (Vec TreePart Global)) E) →
    TellEntries actions origins below (symbols.Inlined action side ∷ []) count entries →
    ((label : ChoiceLabel) → TellsLabel actions origins action.0 (length side) label → IfOk r (TellsKept label q)) →
    IfOk r (TellsAllKept entries (q ∷ []))
inlined_kept actions origins below action side count entries q (Err e) told h = tt
inlined_kept actions origins below action side count entries q (Ok o) told h =
    let e = inlined_entry actions origins below action side count entries told in
    subst (λ x. TellsAllKept x (q ∷ []) o) (sym e.entries_are) (one e.label o (h e.label e.told))
  where
    one : (label : ChoiceLabel) (found : Option (Vec TreePart Global)) → TellsKept label q found →
        TellsAllKept (Inlinings.inlined label Inlinings.none) (q ∷ []) found
    one label (Some qs) k = record {
      first = shown_part q;
      others = [];
      front = map shown_part qs.items;
      left = [];
      children_are = refl;
      trees_are = sym (append-nil (map shown_part qs.items));
      kept = k;
      rest = (refl, refl);
    }
    one label None k = λ us i.
        k i.front (subst (λ t. AreKeptBy label t i.front) (sym (cons_same (shown_part q) i.first [] i.others i.children_are).0) i.kept)

-- and of one that was kept
pub original_kept : (actions : List ActionFnDefn) (origins : List choices.Origin) (below : ℕ) (s : Symbol) (count : ℕ)
    (entries : ChoiceInlinings) (q : TreePart) (qs : Vec TreePart Global) →
    TellEntries actions origins below (symbols.Original s ∷ []) count entries → qs.items ≡ q ∷ [] →
    TellsAllKept entries (q ∷ []) (Some qs)
original_kept actions origins below s count entries q qs told e =
    subst (λ x. AreAllKeptBy x (shown_part q ∷ []) (map shown_part qs.items))
    (sym (kept_entry actions origins below s count entries told).1)
    (record {
      first = shown_part q;
      others = [];
      left = [];
      children_are = refl;
      trees_are = ap (λ l. map shown_part l) e;
      rest = (refl, refl);
    })
