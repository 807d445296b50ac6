-- The records of a right side are just those of a step of inlining, by the labels of the actions: for the law on inlined grammars.
use Rattle.std.proofs.Common.{◌≡◌, ◌≢◌, ℕ, List, [], ◌∷◌, ◌++◌, ◌∙◌, refl, ap, sym, subst, inl, inr}
use Rattle.std.proofs.Common.{true, false, map}
use Rattle.std.specs.Prelude.{Bool, if◌then◌else◌}
use Rattle.std.specs.Str.{bytes_eq}
use Rattle.std.proofs.lemmas.List.{map-append}
use Rattle.std.proofs.lemmas.Slice.Eq.{bytes_eq-Decides}
use Rattle.lalrpop_grammar_symbols.specs.Symbols.{Text}
use Rattle.lalrpop_grammar_symbols.specs.Views.{terminal_view}
use Rattle.lalrpop_grammar_language.specs.Among.{Among}
use Rattle.lalrpop_grammar_language.specs.Expansion.{GrammarSymbol}
use Rattle.lalrpop_grammar_language.proofs.PlaceLemmas.{among_map}
use Rattle.lalrpop_grammar_repr.specs.declared.action.InlinedSymbol.{InlinedSymbol}
use Rattle.lalrpop_grammar_repr.specs.declared.action.InlinedSymbol.TheVariants as inlined
use Rattle.lalrpop_grammar_repr.specs.declared.production.Production.{Production}
use Rattle.lalrpop_grammar_repr.specs.declared.production.Symbol.{Symbol}
use Rattle.lalrpop_grammar_repr.specs.declared.production.Symbol.TheVariants as symbols
use Rattle.lalrpop_grammar_language.specs.Labels.{BaseProductions, GrammarSymbols, Label}
use Rattle.lalrpop_grammar_language.specs.Inlining.{Inlines}
use Rattle.lalrpop_grammar_language.specs.Steps.{IsRecord, RecordedSymbol, symbols_after, symbols_before}
use Rattle.lalrpop_lr1_inline.specs.InliningSteps.{record_entries, records_of, side_of_entry, side_of_record}
use Rattle.lalrpop_lr1_inline.specs.NamedProductions.{entry_by_labels, record_by_labels, side_by_names, symbol_by_name}
use Rattle.lalrpop_grammar_language.proofs.AmongLemmas.{among_flat_map, map_among, flat_map_among}

module _ (M : BaseProductions Text ℕ) (In : Text → Type 0) (n : Text) (ps : List Production) (lab : ℕ → Label Text ℕ) where
  -- an entry that a record may have for the symbol, whatever follows
  record IsEntryFor (s : Symbol) (e : InlinedSymbol) : Type 0 where
    is_record : (rest : List (RecordedSymbol Text ℕ)) → IsRecord M In n rest → IsRecord M In n (entry_by_labels lab e ∷ rest)
    before : (rest : List (RecordedSymbol Text ℕ)) →
        symbols_before n (entry_by_labels lab e ∷ rest) ≡ symbol_by_name s ∷ symbols_before n rest
    after : (rest : List (RecordedSymbol Text ℕ)) →
        symbols_after (entry_by_labels lab e ∷ rest) ≡ side_by_names (side_of_entry e) ++ symbols_after rest

  kept_entry : (s : Symbol) → symbol_by_name s ≢ GrammarSymbol.nonterminal n → IsEntryFor s (inlined.Original s)
  kept_entry s apart = record { is_record = λ rest h. (apart, h); before = λ rest. refl; after = λ rest. refl }

  module _ (each : (p : Production) → Among ps p → Inlines M In n (lab p.action.0) (side_by_names p.symbols)) where
    put_entry : (s : Symbol) (p : Production) → Among ps p → symbol_by_name s ≡ GrammarSymbol.nonterminal n →
        IsEntryFor s (inlined.Inlined p.action p.symbols)
    put_entry s p i same = record {
      is_record = λ rest h. (each p i, h);
      before = λ rest. ap (λ x. x ∷ symbols_before n rest) (sym same);
      after = λ rest. refl;
    }

    entry_is : (s : Symbol) (e : InlinedSymbol) → Among (record_entries n ps s) e → IsEntryFor s e
    entry_is (symbols.Terminal t) e (inl same) =
        subst (IsEntryFor (symbols.Terminal t)) same (kept_entry (symbols.Terminal t) apart)
      where
        apart : GrammarSymbol.terminal (terminal_view t) ≢ GrammarSymbol.nonterminal n
        apart f = (let g : GrammarSymbol.terminal (terminal_view t) ≡ GrammarSymbol.nonterminal n = f in cc)
    entry_is (symbols.Terminal t) e (inr i) = absurd i
    entry_is (symbols.Nonterminal m) e i = go (bytes_eq m.0 n) refl i
      where
        go : (b : Bool) → bytes_eq m.0 n ≡ b →
            Among (if b then map (λ (p : Production). inlined.Inlined p.action p.symbols) ps
            else inlined.Original (symbols.Nonterminal m) ∷ []) e →
            IsEntryFor (symbols.Nonterminal m) e
        go true f j =
            let r = among_map (λ (p : Production). inlined.Inlined p.action p.symbols) ps e j in
            subst (IsEntryFor (symbols.Nonterminal m)) r.2
            (put_entry (symbols.Nonterminal m) r.0 r.1 (ap GrammarSymbol.nonterminal ((bytes_eq-Decides m.0 n).0 f)))
        go false f (inl same) =
            subst (IsEntryFor (symbols.Nonterminal m)) same (kept_entry (symbols.Nonterminal m) apart)
          where
            apart : GrammarSymbol.nonterminal m.0 ≢ GrammarSymbol.nonterminal n
            apart g =
                let h : GrammarSymbol.nonterminal m.0 ≡ GrammarSymbol.nonterminal n = g in
                let names : m.0 ≡ n = cc in
                let wrong : false ≡ true = sym f ∙ (bytes_eq-Decides m.0 n).1 names in
                cc
        go false f (inr j) = absurd j

    -- a record of the list is one of the step, of this right side, and makes what the production has
    pub record_is : (side : List Symbol) (r : List InlinedSymbol) → Among (records_of n ps side) r →
        IsRecord M In n (record_by_labels lab r) × (symbols_before n (record_by_labels lab r) ≡ side_by_names side)
        × (symbols_after (record_by_labels lab r) ≡ side_by_names (side_of_record r))
    record_is [] r (inl e) =
        subst
        (λ (q : List InlinedSymbol). IsRecord M In n (record_by_labels lab q) × (symbols_before n (record_by_labels lab q) ≡ [])
        × (symbols_after (record_by_labels lab q) ≡ side_by_names (side_of_record q)))
        e (tt, refl, refl)
    record_is [] r (inr i) = absurd i
    record_is (s ∷ side) r i =
        let a = among_flat_map (λ e. map (λ q. e ∷ q) (records_of n ps side)) (record_entries n ps s) r i in
        let b = among_map (λ q. a.0 ∷ q) (records_of n ps side) r a.2 in
        let first = entry_is s a.0 a.1 in
        let rest = record_is side b.0 b.1 in
        subst
        (λ (q : List InlinedSymbol). IsRecord M In n (record_by_labels lab q)
        × (symbols_before n (record_by_labels lab q) ≡ side_by_names (s ∷ side))
        × (symbols_after (record_by_labels lab q) ≡ side_by_names (side_of_record q)))
        b.2 (
          first.is_record (record_by_labels lab b.0) rest.0,
          first.before (record_by_labels lab b.0) ∙ ap (λ l. symbol_by_name s ∷ l) rest.1,
          first.after (record_by_labels lab b.0) ∙ ap (λ l. side_by_names (side_of_entry a.0) ++ l) rest.2
              ∙ sym (map-append symbol_by_name (side_of_entry a.0) (side_of_record b.0)),
        )

  -- a production of the nonterminal with this label and this right side
  pub record IsLabelled (label : Label Text ℕ) (side : GrammarSymbols Text) : Type 0 where
    pub production : Production
    pub is_one : Among ps production
    pub label_is : lab production.action.0 ≡ label
    pub side_is : side_by_names production.symbols ≡ side

  -- a record of the list that says the same
  pub record IsListed (side : List Symbol) (rs : List (RecordedSymbol Text ℕ)) : Type 0 where
    pub entries : List InlinedSymbol
    pub is_one : Among (records_of n ps side) entries
    pub says : record_by_labels lab entries ≡ rs

  longer : (s : Symbol) (side : List Symbol) (e : InlinedSymbol) (x : RecordedSymbol Text ℕ) (rs : List (RecordedSymbol Text ℕ)) →
      Among (record_entries n ps s) e → entry_by_labels lab e ≡ x → IsListed side rs → IsListed (s ∷ side) (x ∷ rs)
  longer s side e x rs i same r = record {
    entries = e ∷ r.entries;
    is_one = flat_map_among (λ y. map (λ q. y ∷ q) (records_of n ps side)) (record_entries n ps s) e (e ∷ r.entries) i
        (map_among (λ q. e ∷ q) (records_of n ps side) r.entries r.is_one);
    says = ap (λ y. y ∷ record_by_labels lab r.entries) same ∙ ap (λ l. x ∷ l) r.says;
  }

  kept_listed : (s : Symbol) → symbol_by_name s ≢ GrammarSymbol.nonterminal n → Among (record_entries n ps s) (inlined.Original s)
  kept_listed (symbols.Terminal t) apart = inl refl
  kept_listed (symbols.Nonterminal m) apart = go (bytes_eq m.0 n) refl
    where
      go : (b : Bool) → bytes_eq m.0 n ≡ b →
          Among (if b then map (λ (p : Production). inlined.Inlined p.action p.symbols) ps
          else inlined.Original (symbols.Nonterminal m) ∷ []) (inlined.Original (symbols.Nonterminal m))
      go true f = absurd (apart (ap GrammarSymbol.nonterminal ((bytes_eq-Decides m.0 n).0 f)))
      go false f = inl refl

  put_listed : (s : Symbol) (p : Production) → Among ps p → GrammarSymbol.nonterminal n ≡ symbol_by_name s →
      Among (record_entries n ps s) (inlined.Inlined p.action p.symbols)
  put_listed (symbols.Terminal t) p i same =
      (let f : GrammarSymbol.nonterminal n ≡ GrammarSymbol.terminal (terminal_view t) = same in cc)
  put_listed (symbols.Nonterminal m) p i same = go (bytes_eq m.0 n) ((bytes_eq-Decides m.0 n).1 names)
    where
      names : m.0 ≡ n
      names = (let f : GrammarSymbol.nonterminal n ≡ GrammarSymbol.nonterminal m.0 = same in cc)

      go : (b : Bool) → b ≡ true →
          Among (if b then map (λ (q : Production). inlined.Inlined q.action q.symbols) ps
          else inlined.Original (symbols.Nonterminal m) ∷ []) (inlined.Inlined p.action p.symbols)
      go true f = map_among (λ (q : Production). inlined.Inlined q.action q.symbols) ps p i
      go false f = (let wrong : false ≡ true = f in cc)

  module _ (all : (label : Label Text ℕ) (side : GrammarSymbols Text) → Inlines M In n label side → IsLabelled label side) where
    -- each record of the step is one of the list
    pub record_listed : (side : List Symbol) (rs : List (RecordedSymbol Text ℕ)) → IsRecord M In n rs →
        symbols_before n rs ≡ side_by_names side → IsListed side rs
    record_listed [] [] h e = record { entries = []; is_one = inl refl; says = refl }
    record_listed [] (RecordedSymbol.original p ∷ rs) h e = (let f : p ∷ symbols_before n rs ≡ [] = e in cc)
    record_listed [] (RecordedSymbol.inlined l t ∷ rs) h e =
        (let f : GrammarSymbol.nonterminal n ∷ symbols_before n rs ≡ [] = e in cc)
    record_listed (s ∷ side) [] h e = (let f : [] ≡ symbol_by_name s ∷ side_by_names side = e in cc)
    record_listed (s ∷ side) (RecordedSymbol.original p ∷ rs) h e =
        let f : p ∷ symbols_before n rs ≡ symbol_by_name s ∷ side_by_names side = e in
        let same : p ≡ symbol_by_name s = cc in
        let behind : symbols_before n rs ≡ side_by_names side = cc in
        longer s side (inlined.Original s) (RecordedSymbol.original p) rs (kept_listed s (λ g. h.0 (same ∙ g)))
        (ap RecordedSymbol.original (sym same)) (record_listed side rs h.1 behind)
    record_listed (s ∷ side) (RecordedSymbol.inlined l t ∷ rs) h e =
        let f : GrammarSymbol.nonterminal n ∷ symbols_before n rs ≡ symbol_by_name s ∷ side_by_names side = e in
        let same : GrammarSymbol.nonterminal n ≡ symbol_by_name s = cc in
        let behind : symbols_before n rs ≡ side_by_names side = cc in
        let q = all l t h.0 in
        longer s side (inlined.Inlined q.production.action q.production.symbols) (RecordedSymbol.inlined l t) rs
        (put_listed s q.production q.is_one same)
        (ap (λ k. RecordedSymbol.inlined k (side_by_names q.production.symbols)) q.label_is ∙ ap (RecordedSymbol.inlined l) q.side_is)
        (record_listed side rs h.1 behind)
