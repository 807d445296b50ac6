-- The faults of tokens over the written grammar are those of the expanded one; for the faults that stand in the written grammar.
use Rattle.std.proofs.Common.{◌≡◌, List, [], ◌∷◌, refl, ap, ap₂, sym, ◌∙◌, subst, Bool, inl, inr, ◌⊎◌}
use Rattle.std.specs.Prelude.{Option, unwrap_or, ◌↔◌}
use Rattle.std.specs.List.{AllByRecursion}
use Rattle.std.specs.Option.{option_or}
use Rattle.lalrpop_grammar_symbols.specs.Symbols.{Text, TextSpan, Terminal}
use Rattle.lalrpop_grammar_symbols.specs.Views.{literal_view}
use Rattle.lalrpop_grammar.specs.WrittenGrammar.{InternEntry, WrittenEntry, Grammar}
use Rattle.lalrpop_grammar_language.specs.Among.{Among}
use Rattle.lalrpop_grammar_language.specs.Enabled.{EnabledGrammar}
use Rattle.lalrpop_grammar_language.specs.Expansion.{Nonterminal}
use Rattle.lalrpop_grammar_repr.specs.declared.norm_error.NormErrorKind.{NormErrorKind}
use Rattle.lalrpop_grammar_repr.specs.declared.norm_error.NormErrorKind.TheVariants as kinds
use Rattle.lalrpop_norm_theory.specs.Between.{grammar_between}
use Rattle.lalrpop_norm_theory.specs.Premises.{IsExpanded}
use Rattle.lalrpop_norm_theory.specs.Same.{SameExpansion}
use Rattle.lalrpop_lexer_scan.specs.Literals.{IsBefore}
use Rattle.lalrpop_norm_token_check.specs.Blocks.{block_groups, first_lacking}
use Rattle.lalrpop_norm_token_check.specs.Entries.{tokenizer_entries, AreUsed, AreFullEntries}
use Rattle.lalrpop_norm_token_check.specs.Faults.{TokenFaultInExpanded}
use Rattle.lalrpop_norm_token_check.specs.Places.{FirstPlaces, listed_in, place_of}
use Rattle.lalrpop_norm_chain.specs.UsedLiterals.{AreAscending, AreUsedLiterals, AreFullExpansionEntries}
use Rattle.lalrpop_norm_chain.proofs.UsedLiteralLemmas.{used_literals, full_entries}
use Rattle.lalrpop_norm_chain.specs.TokenFaults.{TokenFaultInWritten}
use Rattle.lalrpop_norm_token_check.proofs.UniqueLemmas.{before_itself, before_back}

-- an expansion has one list of literals

behind : (t : Terminal) (ts : List Terminal) → AllByRecursion (λ u. IsBefore t u) ts → (u : Terminal) → Among ts u → IsBefore t u
behind t [] h u i = absurd i
behind t (v ∷ ts) h u (inl e) = subst (IsBefore t) e h.0
behind t (v ∷ ts) h u (inr i) = behind t ts h.1 u i

abbrev HaveSame : List Terminal → List Terminal → Type 0
HaveSame ts us = (x : Terminal) → Among ts x ↔ Among us x

firsts_same : (t u : Terminal) (ts us : List Terminal) → AreAscending (t ∷ ts) → AreAscending (u ∷ us) →
    HaveSame (t ∷ ts) (u ∷ us) → t ≡ u
firsts_same t u ts us a b h = go ((h t).0 (inl refl)) ((h u).1 (inl refl))
  where
    go : (u ≡ t) ⊎ Among us t → (t ≡ u) ⊎ Among ts u → t ≡ u
    go (inl e) k = sym e
    go (inr i) (inl e) = e
    go (inr i) (inr j) = absurd (before_back u t (behind u us b.0 t i) (behind t ts a.0 u j))

rest_same : (t : Terminal) (ts us : List Terminal) → AreAscending (t ∷ ts) → AreAscending (t ∷ us) →
    HaveSame (t ∷ ts) (t ∷ us) → HaveSame ts us
rest_same t ts us a b h x = (λ i. left i ((h x).0 (inr i)), λ i. right i ((h x).1 (inr i)))
  where
    left : Among ts x → (t ≡ x) ⊎ Among us x → Among us x
    left i (inl e) = absurd (before_itself t (behind t ts a.0 t (subst (Among ts) (sym e) i)))
    left i (inr j) = j

    right : Among us x → (t ≡ x) ⊎ Among ts x → Among ts x
    right i (inl e) = absurd (before_itself t (behind t us b.0 t (subst (Among us) (sym e) i)))
    right i (inr j) = j

ascending_same : (ts us : List Terminal) → AreAscending ts → AreAscending us → HaveSame ts us → ts ≡ us
ascending_same [] [] a b h = refl
ascending_same [] (u ∷ us) a b h = absurd ((h u).1 (inl refl))
ascending_same (t ∷ ts) [] a b h = absurd ((h t).0 (inl refl))
ascending_same (t ∷ ts) (u ∷ us) a b h =
    let same : t ≡ u = firsts_same t u ts us a b h in
    let b' : AreAscending (t ∷ us) = subst (λ (x : Terminal). AreAscending (x ∷ us)) (sym same) b in
    let h' : HaveSame (t ∷ ts) (t ∷ us) = subst (λ (x : Terminal). HaveSame (t ∷ ts) (x ∷ us)) (sym same) h in
    ap₂ ◌∷◌ same (ascending_same ts us a.1 b'.1 (rest_same t ts us a b' h'))

pub one_list : (g : EnabledGrammar) (ts us : List Terminal) → AreUsedLiterals g ts → AreUsedLiterals g us → ts ≡ us
one_list g ts us a b =
    ascending_same ts us a.ascending b.ascending (λ x. (λ i. (b.each x).1 ((a.each x).0 i), λ i. (a.each x).1 ((b.each x).0 i)))

-- faults

module _ (finds : Text → Text → Option Bool) (m w : Grammar) (expanded : IsExpanded (grammar_between finds m)) (g : EnabledGrammar)
    (to : Nonterminal → Nonterminal) (s : SameExpansion g (grammar_between finds m) to)
    (block : block_groups m.items ≡ block_groups w.items) (span : m.span ≡ w.span) (first : FirstPlaces) where
  places_same : (l : Terminal) → place_of first m l ≡ place_of first w l
  places_same l =
      ap (λ (b : Option (List (List WrittenEntry))). unwrap_or (option_or (listed_in b l) (first l)) m.span) block
      ∙ ap (unwrap_or (option_or (listed_in (block_groups w.items) l) (first l))) span

  full_here : (es : List InternEntry) → AreFullEntries m es → AreFullExpansionEntries g (block_groups w.items) es
  full_here es a =
      subst (λ (b : Option (List (List WrittenEntry))). AreFullExpansionEntries g b es) block
      (full_entries finds m expanded g to s es a)

  -- a fault of the expanded grammar stands in the written one
  pub token_back : (kind : NormErrorKind) (p : TextSpan) → TokenFaultInExpanded first kind p m → TokenFaultInWritten first g w kind p
  token_back (kinds.NotInMatchBlock l) p t = record {
    used = t.used;
    are_used = used_literals finds m expanded g to s t.used t.are_used;
    first_is = ap (λ (b : Option (List (List WrittenEntry))). first_lacking b t.used) (sym block) ∙ t.first_is;
    place = sym (places_same (literal_view l)) ∙ t.place;
  }
  token_back (kinds.PatternRefused l) p t = record {
    entries = t.entries;
    are_full = full_here t.entries t.are_full;
    first_is = t.first_is;
    place = sym (places_same (literal_view l)) ∙ t.place;
  }
  token_back (kinds.SameText l k) p t = record {
    entries = t.entries;
    are_full = full_here t.entries t.are_full;
    none_refused = t.none_refused;
    tied = t.tied;
    place = sym (places_same (literal_view l)) ∙ t.place;
  }
  token_back (kinds.DuplicateDefinition name) p t = absurd t
  token_back kinds.SecondMatchBlock p t = absurd t
  token_back (kinds.UnknownAttribute name) p t = absurd t
  token_back kinds.PublicInline p t = absurd t
  token_back kinds.FirstWithoutLevel p t = absurd t
  token_back kinds.LevelIsNoNumber p t = absurd t
  token_back kinds.SideOnTightestLevel p t = absurd t
  token_back kinds.UnknownSide p t = absurd t
  token_back kinds.ReservedPrefix p t = absurd t
  token_back kinds.NamedNotAllowed p t = absurd t
  token_back kinds.EntryTwice p t = absurd t
  token_back (kinds.NoDefinition name) p t = absurd t
  token_back kinds.WrongNumberOfArguments p t = absurd t
  token_back kinds.MacroAsRule p t = absurd t
  token_back (kinds.MacroDepth limit) p t = absurd t
  token_back kinds.ConditionOnOther p t = absurd t
  token_back kinds.ConditionPattern p t = absurd t
  token_back kinds.TypesDisagree p t = absurd t
  token_back (kinds.NoType name) p t = absurd t
  token_back kinds.TooManyActions p t = absurd t
  token_back (kinds.CyclicInline name) p t = absurd t

  -- and the other way round, where the expanded grammar has literals in use, as it always has
  module _ (used : List Terminal) (are_used : AreUsed m used) where
    used_there : (us : List Terminal) → AreUsedLiterals g us → AreUsed m us
    used_there us a =
        subst (AreUsed m) (one_list g used us (used_literals finds m expanded g to s used are_used) a) are_used

    full_there : (es : List InternEntry) → AreFullExpansionEntries g (block_groups w.items) es → AreFullEntries m es
    full_there es a = record {
      listed = record {
        used = a.listed.used;
        are_used = used_there a.listed.used a.listed.are_used;
        entries_are = a.listed.entries_are
            ∙ ap (λ (b : Option (List (List WrittenEntry))). tokenizer_entries b a.listed.used) (sym block);
      };
      none_lacks = ap (λ (b : Option (List (List WrittenEntry))). first_lacking b a.listed.used) block ∙ a.none_lacks;
    }

    pub token_forth : (kind : NormErrorKind) (p : TextSpan) → TokenFaultInWritten first g w kind p → TokenFaultInExpanded first kind p m
    token_forth (kinds.NotInMatchBlock l) p t = record {
      used = t.used;
      are_used = used_there t.used t.are_used;
      first_is = ap (λ (b : Option (List (List WrittenEntry))). first_lacking b t.used) block ∙ t.first_is;
      place = places_same (literal_view l) ∙ t.place;
    }
    token_forth (kinds.PatternRefused l) p t = record {
      entries = t.entries;
      are_full = full_there t.entries t.are_full;
      first_is = t.first_is;
      place = places_same (literal_view l) ∙ t.place;
    }
    token_forth (kinds.SameText l k) p t = record {
      entries = t.entries;
      are_full = full_there t.entries t.are_full;
      none_refused = t.none_refused;
      tied = t.tied;
      place = places_same (literal_view l) ∙ t.place;
    }
    token_forth (kinds.DuplicateDefinition name) p t = absurd t
    token_forth kinds.SecondMatchBlock p t = absurd t
    token_forth (kinds.UnknownAttribute name) p t = absurd t
    token_forth kinds.PublicInline p t = absurd t
    token_forth kinds.FirstWithoutLevel p t = absurd t
    token_forth kinds.LevelIsNoNumber p t = absurd t
    token_forth kinds.SideOnTightestLevel p t = absurd t
    token_forth kinds.UnknownSide p t = absurd t
    token_forth kinds.ReservedPrefix p t = absurd t
    token_forth kinds.NamedNotAllowed p t = absurd t
    token_forth kinds.EntryTwice p t = absurd t
    token_forth (kinds.NoDefinition name) p t = absurd t
    token_forth kinds.WrongNumberOfArguments p t = absurd t
    token_forth kinds.MacroAsRule p t = absurd t
    token_forth (kinds.MacroDepth limit) p t = absurd t
    token_forth kinds.ConditionOnOther p t = absurd t
    token_forth kinds.ConditionPattern p t = absurd t
    token_forth kinds.TypesDisagree p t = absurd t
    token_forth (kinds.NoType name) p t = absurd t
    token_forth kinds.TooManyActions p t = absurd t
    token_forth (kinds.CyclicInline name) p t = absurd t
