-- The symbols on the right sides of a call of a rule without levels have just the keys that stand there; for the search.
use Rattle.std.proofs.Common.{◌≡◌, ◌≢◌, List, [], ◌∷◌, refl, ap, cond, sym, ◌∙◌, subst, inl, inr, true}
use Rattle.std.proofs.Common.{◌⊎◌, map, length}
use Rattle.std.specs.Prelude.{Bool, false, Option, Some, None, is_some, zip, Result, Ok, Err, IfOk, IfErr}
use Rattle.std.proofs.lemmas.List.{length-map}
use Rattle.lalrpop_grammar_symbols.specs.Symbols.{Text, Closed, Closeds, closed_list}
use Rattle.lalrpop_grammar_symbols.specs.declared.names.NonterminalString.{NonterminalString}
use Rattle.lalrpop_grammar.specs.WrittenGrammar.{Origin}
use Rattle.lalrpop_grammar_language.specs.Among.{Among}
use Rattle.lalrpop_grammar_language.specs.Enabled.{EnabledGrammar, EnabledRule, Choice, IsRule}
use Rattle.lalrpop_grammar_language.specs.Levels.{Rank, has_levels, rank_after, ranked_choices, with_ranks, written_assoc, written_level}
use Rattle.lalrpop_grammar_language.specs.Closing.{Binding, right_side}
use Rattle.lalrpop_grammar_language.specs.Conditions.{Holds}
use Rattle.lalrpop_grammar_language.specs.Admitting.{argument_list, bind, rank_level}
use Rattle.lalrpop_grammar_language.specs.Expansion.{GrammarSymbol, Nonterminal, RightSide, Produces}
use Rattle.lalrpop_grammar_language.specs.Expansion.{grammar_symbol, origin_with}
use Rattle.lalrpop_grammar_language.proofs.PlaceLemmas.{among_map}
use Rattle.lalrpop_norm_theory.specs.Premises.{HasNoLevels}
use Rattle.lalrpop_grammar_language.proofs.AmongLemmas.{map_among}
use Rattle.lalrpop_norm_theory.proofs.ExpansionListLemmas.{rule_there}
use Rattle.lalrpop_norm_theory.proofs.LevelLemmas.{no_rank}
use Rattle.lalrpop_norm_theory.specs.KeyTables.{KeyStandsIn, keys_in_all}
use Rattle.lalrpop_grammar_rules.specs.Views.{binding_of, closed_view, closeds}
use Rattle.lalrpop_grammar_rules.specs.declared.closed.closed_symbol.ClosedSymbol.{ClosedSymbol}
use Rattle.lalrpop_grammar_rules.proofs.ArgumentLemmas.{closed_list-closeds}
use Rattle.lalrpop_grammar_repr.specs.declared.session.NormFault.{NormFault}
use Rattle.lalrpop_grammar_repr.specs.declared.session.NormFault.TheVariants as faults
use Rattle.lalrpop_norm_keys.specs.Instances.{AddsSides, HasKeysOf, TellsOfCall, TellsOfSome}
use Rattle.lalrpop_norm_keys.specs.StandingCalls.{HasCallsOf}
use Rattle.lalrpop_norm_keys.proofs.SideLemmas.{IsOfSide, added_of_sides, all_of_sides}
use Rattle.lalrpop_norm_keys.proofs.StandingCallLemmas.{calls_of_sides}
use Rattle.lalrpop_norm_keys.proofs.SymbolLemmas.{among_key, key_among, same_keys}

module _ (g : EnabledGrammar) (n : Text) (args : Closeds) where
  abbrev the_call : Closed
  the_call = Closed.call n args None

  -- a call in which nothing can be chosen has nothing on its right sides
  module _ (never : (o : Origin) (side : RightSide) → Produces g (Nonterminal.closed the_call) o side → ⊥) where
    pub keys_of_nothing : HasKeysOf g the_call []
    keys_of_nothing z = (λ i. absurd i, λ s. absurd (never s.origin s.side s.produced))

  -- nothing is produced where no rule has the name alone
  pub nothing_without_rule : ((r : EnabledRule) → IsRule g n r → ⊥) → (o : Origin) (side : RightSide)
      → Produces g (Nonterminal.closed the_call) o side → ⊥
  nothing_without_rule out o side (inl b) = out b.rule b.fits.rule
  nothing_without_rule out o side (inr p) = out p.rule p.is_rule

  module _ (r : EnabledRule) (is : IsRule g n r) where
    rule_same : (q : EnabledRule) → IsRule g n q → q ≡ r
    rule_same q i = cc (i, is)

    -- nor where it takes another number of arguments
    pub nothing_without_arguments : length (closed_list args) ≢ length r.parameters → (o : Origin) (side : RightSide)
        → Produces g (Nonterminal.closed the_call) o side → ⊥
    nothing_without_arguments other o side (inl b) =
        other (b.fits.arguments ∙ ap (λ (q : EnabledRule). length q.parameters) (rule_same b.rule b.fits.rule))
    nothing_without_arguments other o side (inr p) =
        other (p.arguments ∙ ap (λ (q : EnabledRule). length q.parameters) (rule_same p.rule p.is_rule))

    module _ (flat : has_levels r ≡ false) (full : length (closed_list args) ≡ length r.parameters) (xs : List Closed)
        (added : AddsSides g r (bind r args) (ranked_choices r) [] xs) where
      abbrev Chosen : Choice × Option Rank → Type 0
      Chosen p = Among (ranked_choices r) p × Holds g (bind r args) p.0.condition

      unranked : (p : Choice × Option Rank) → Among (ranked_choices r) p → p.1 ≡ None
      unranked p i = no_rank r p flat i

      -- the right side of an alternative that may be chosen
      abbrev side_of : Choice × Option Rank → RightSide
      side_of p = map grammar_symbol (right_side g r (bind r args) p)

      produced_by : (p : Choice × Option Rank) → Chosen p →
          Produces g (Nonterminal.closed the_call) (origin_with (argument_list g.spelled args) p.0.origin) (side_of p)
      produced_by p c = inl (record {
        rule = r;
        choice = p;
        fits = record {
          rule = is;
          arguments = full;
          written = c.0;
          leveled = ap (λ (k : Option Rank). is_some k) (unranked p c.0) ∙ sym flat;
          holds = c.1;
        };
        level_is = ap rank_level (unranked p c.0);
        origin_is = refl;
        side_is = refl;
      })

      -- a symbol of what is produced is one of the gathered symbols
      symbol_gathered : (o : Origin) (side : RightSide) → Produces g (Nonterminal.closed the_call) o side →
          (s : GrammarSymbol Nonterminal) → Among side s → (x : Closed) × Among xs x × (grammar_symbol x ≡ s)
      symbol_gathered o side (inl b) s i =
          let same = rule_same b.rule b.fits.rule in
          let here : Among (map grammar_symbol (right_side g b.rule (bind b.rule args) b.choice)) s = subst (λ l. Among l s) b.side_is i in
          let w = among_map grammar_symbol (right_side g b.rule (bind b.rule args) b.choice) s here in (
            w.0,
            all_of_sides g r (bind r args) (ranked_choices r) [] xs added w.0 (inr (
              b.choice,
              subst (λ q. Among (ranked_choices q) b.choice) same b.fits.written,
              subst (λ q. Holds g (bind q args) b.choice.0.condition) same b.fits.holds,
              subst (λ q. Among (right_side g q (bind q args) b.choice) w.0) same w.1,
            )),
            w.2,
          )
      symbol_gathered o side (inr p) s i = absurd (let wrong : None ≡ Some p.from = p.from_is in cc)

      -- and a gathered symbol is one of what is produced
      gathered_symbol : (x : Closed) → Among xs x →
          (o : Origin) × (side : RightSide) × Produces g (Nonterminal.closed the_call) o side × Among side (grammar_symbol x)
      gathered_symbol x i = go (added_of_sides g r (bind r args) (ranked_choices r) [] xs added x i)
        where
          go : ⊥ ⊎ IsOfSide g r (bind r args) (ranked_choices r) x →
              (o : Origin) × (side : RightSide) × Produces g (Nonterminal.closed the_call) o side × Among side (grammar_symbol x)
          go (inl j) = absurd j
          go (inr (p, j, h, k)) = (
            origin_with (argument_list g.spelled args) p.0.origin,
            side_of p,
            produced_by p (j, h),
            map_among grammar_symbol (right_side g r (bind r args) p) x k,
          )

      key_there : (z : Closed) → Among (keys_in_all (closeds xs)) z → KeyStandsIn g the_call z
      key_there z i =
          let w = among_key xs z i in
          let p = gathered_symbol w.0 w.1 in record {
            origin = p.0;
            side = p.1;
            symbol = w.0;
            produced = p.2;
            in_side = p.3;
            stands = w.2;
          }

      there_key : (z : Closed) → KeyStandsIn g the_call z → Among (keys_in_all (closeds xs)) z
      there_key z s =
          let w = symbol_gathered s.origin s.side s.produced (grammar_symbol s.symbol) s.in_side in
          key_among xs w.0 z w.1 (subst (λ l. Among l z) (sym (same_keys w.0 s.symbol w.2)) s.stands)

      -- else they are those of the right sides of the alternatives whose conditions hold
      pub keys_of_sides : HasKeysOf g the_call xs
      keys_of_sides z = (key_there z, there_key z)

-- the arguments that the program has are those that are bound
pub binding_same : (r : EnabledRule) (ps : List NonterminalString) (as_ : List ClosedSymbol) → r.parameters ≡ map (λ p. p.0) ps
    → binding_of ps as_ ≡ bind r (closeds (map closed_view as_))
binding_same r ps as_ e =
    ap (λ l. zip l (map closed_view as_)) (sym e)
    ∙ ap (λ l. zip r.parameters l) (sym (closed_list-closeds (map closed_view as_)))

-- a list of closed symbols is seen with as many members as it has
pub as_many : (as_ : List ClosedSymbol) → length (closed_list (closeds (map closed_view as_))) ≡ length as_
as_many as_ = ap length (closed_list-closeds (map closed_view as_)) ∙ length-map as_ closed_view

-- the alternatives with their ranks are written ones
written_ranked : (last : Option Rank) (cs : List Choice) (p : Choice × Option Rank) → Among (with_ranks last cs) p → Among cs p.0
written_ranked last [] p i = i
written_ranked last (c ∷ cs) p (inl e) = inl (ap (λ (q : Choice × Option Rank). q.0) e)
written_ranked last (c ∷ cs) p (inr i) = inr (written_ranked (rank_after last (written_level c) (written_assoc c)) cs p i)

written_choice : (r : EnabledRule) (p : Choice × Option Rank) → Among (ranked_choices r) p → Among r.choices p.0
written_choice r p i = go (has_levels r) i
  where
    go : (b : Bool) → Among (cond b (with_ranks None r.choices) (map (λ c. (c, None)) r.choices)) p → Among r.choices p.0
    go true j = written_ranked None r.choices p j
    go false j =
        let w = among_map (λ c. (c, None)) r.choices p j in
        subst (Among r.choices) (ap (λ (q : Choice × Option Rank). q.0) w.2) w.1

-- what is told of the alternatives is told of the call
pub tells_of_call : (g : EnabledGrammar) (deep : Text → Bool) (n : Text) (args : Closeds) (r : EnabledRule) → IsRule g n r
    → (f : NormFault) → TellsOfSome g.finds deep (bind r args) (ranked_choices r) f → TellsOfCall g deep n args f
tells_of_call g deep n args r is faults.Memory t = tt
tells_of_call g deep n args r is (faults.Norm e) (p, i, t) =
    (p.0, bind r args, record { rule = r; is_rule = is; among = written_choice r p i; binding_is = refl }, t)
tells_of_call g deep n args r is faults.ConditionLimit (p, i, t) =
    (p.0, bind r args, record { rule = r; is_rule = is; among = written_choice r p i; binding_is = refl }, t)

-- the symbols that are answered have the calls, and the keys where no rule has levels; and the faults
module _ (g : EnabledGrammar) (n : Text) (args : Closeds) (r : EnabledRule) (is : IsRule g n r)
    (full : length (closed_list args) ≡ length r.parameters) (b : Binding) (same : b ≡ bind r args) where
  pub calls_ok : (res : Result (List ClosedSymbol) NormFault)
      → IfOk res (λ xs. AddsSides g r b (ranked_choices r) [] (map closed_view xs))
      → IfOk res (λ xs. HasCallsOf g (Closed.call n args None) (map closed_view xs))
  calls_ok (Ok xs) h =
      calls_of_sides g n args r is full (map closed_view xs)
      (subst (λ d. AddsSides g r d (ranked_choices r) [] (map closed_view xs)) same h)
  calls_ok (Err e) h = h

  pub keys_ok : (res : Result (List ClosedSymbol) NormFault)
      → IfOk res (λ xs. AddsSides g r b (ranked_choices r) [] (map closed_view xs))
      → IfOk res (λ xs. HasNoLevels g → HasKeysOf g (Closed.call n args None) (map closed_view xs))
  keys_ok (Ok xs) h = λ flat.
      keys_of_sides g n args r is (flat r (rule_there g n r is).0) full (map closed_view xs)
      (subst (λ d. AddsSides g r d (ranked_choices r) [] (map closed_view xs)) same h)
  keys_ok (Err e) h = h

-- a fault of a condition of one of the rule's alternatives is one of the call of the rule with these arguments
pub symbols_err : {T : Type 0} (g : EnabledGrammar) (deep : Text → Bool) (n : Text) (args : Closeds) (r : EnabledRule)
    → IsRule g n r → (b : Binding) → b ≡ bind r args → (res : Result T NormFault)
    → IfErr res (TellsOfSome g.finds deep b (ranked_choices r)) → IfErr res (TellsOfCall g deep n args)
symbols_err g deep n args r is b same (Ok xs) h = h
symbols_err g deep n args r is b same (Err e) h =
    tells_of_call g deep n args r is e (subst (λ d. TellsOfSome g.finds deep d (ranked_choices r) e) same h)
