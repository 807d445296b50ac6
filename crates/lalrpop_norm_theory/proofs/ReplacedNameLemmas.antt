-- Places of calls go back where names are replaced by what closes as they do; for the laws of places in resolved grammars.
use Rattle.std.proofs.Common.{◌≡◌, ℕ, zero, suc, ◌+◌, List, [], ◌∷◌, ◌++◌, refl, ap, sym, ◌∙◌}
use Rattle.std.proofs.Common.{subst, Bool, inl, inr, length}
use Rattle.std.specs.Prelude.{Option, Some, None, map}
use Rattle.lalrpop_grammar_symbols.specs.Symbols.{Text, TextSpan, Sym, Syms, syms, WrittenSymbol, Closed, Closeds}
use Rattle.lalrpop_grammar_symbols.specs.SymbolMaps.{map_symbol, map_symbols}
use Rattle.lalrpop_grammar.specs.WrittenGrammar.{Rule, Grammar, rules_of}
use Rattle.lalrpop_grammar_language.specs.Among.{Among}
use Rattle.lalrpop_grammar_language.specs.Enabled.{EnabledGrammar, EnabledRule, Choice, IsRule}
use Rattle.lalrpop_grammar_language.specs.Levels.{Rank, allowed_level, allowed_level_above, ranked_choices, reaches, tighter}
use Rattle.lalrpop_grammar_language.specs.Closing.{Binding, Scope, close, occurrences, occurrences_in, scope_of}
use Rattle.lalrpop_grammar_language.specs.Admitting.{Fits, bind, rank_level}
use Rattle.lalrpop_grammar_language.specs.Expansion.{Nonterminal}
use Rattle.lalrpop_grammar_language.proofs.PlaceLemmas.{among_map}
use Rattle.lalrpop_norm_theory.specs.Depth.{calls_in}
use Rattle.lalrpop_grammar_language.proofs.AmongLemmas.{map_among}
use Rattle.lalrpop_norm_theory.proofs.RuleChangeLemmas.{RuleChange, changed_pair, changed_rule, HasChangedRules, KeepsSides}
use Rattle.lalrpop_norm_theory.proofs.RuleChangeLemmas.{fits_before, loosest_kept, ranked_kept, root_before, rule_before}
use Rattle.lalrpop_norm_theory.proofs.RuleChangeLemmas.{tighter_kept}
use Rattle.lalrpop_norm_theory.proofs.ClosedNameLemmas.{ClosesAlike, CountsAlike, close_kept, count_kept, listed_counts_kept, scope_in}
use Rattle.lalrpop_norm_theory.proofs.ClosedNameLemmas.{side_kept, with_names}
use Rattle.lalrpop_norm_theory.proofs.TypeChangeLemmas.{changed_chains}
use Rattle.lalrpop_norm_theory.specs.CallPlaces.{CountedSymbol, IsMadeAt, IsPlaceInSide, IsPlaceOfCall, counted_symbols}
use Rattle.lalrpop_norm_theory.specs.CallPlaces.{place_of_symbol, symbols_of_row, symbols_within}
use Rattle.lalrpop_norm_theory.specs.WrittenPlaces.{IsPassDownAt, IsWrittenBelow, IsWrittenIn}
use Rattle.lalrpop_norm_theory.proofs.InnermostLemmas.{GoesBack, side_back}

-- What stands for a name is written at its place, and no other symbol stands inside.
pub record StandsAlone (f : TextSpan → Text → WrittenSymbol) : Type 0 where
  pub placed : (p : TextSpan) (n : Text) → place_of_symbol (f p n) ≡ p
  pub alone : (b : Binding) (o : Text) (k : ℕ) (p : TextSpan) (n : Text) → symbols_within b o k (f p n) ≡ []

join-map : {A B : Type 0} (h : A → B) (xs ys : List A) → map h xs ++ map h ys ≡ map h (xs ++ ys)
join-map h [] ys = refl
join-map h (x ∷ xs) ys = ap (λ l. h x ∷ l) (join-map h xs ys)

map-itself : {A : Type 0} (xs : List A) → xs ≡ map (λ x. x) xs
map-itself [] = refl
map-itself (x ∷ xs) = ap (λ l. x ∷ l) (map-itself xs)

-- symbols with their names replaced

abbrev pub replaced : (TextSpan → Text → WrittenSymbol) → CountedSymbol → CountedSymbol
replaced f z = (z.0, map_symbol (with_names f) z.1)

place-replaced : (f : TextSpan → Text → WrittenSymbol) → StandsAlone f → (x : WrittenSymbol) →
    place_of_symbol (map_symbol (with_names f) x) ≡ place_of_symbol x
place-replaced f a (Sym.expr p xs) = refl
place-replaced f a (Sym.ambiguous_id p n) = a.placed p n
place-replaced f a (Sym.nonterminal p n) = refl
place-replaced f a (Sym.terminal p t) = refl
place-replaced f a (Sym.macro p n args) = refl
place-replaced f a (Sym.repeat p op x) = refl
place-replaced f a (Sym.choose p x) = refl
place-replaced f a (Sym.name p m n x) = refl
place-replaced f a (Sym.lookahead p) = refl
place-replaced f a (Sym.lookbehind p) = refl
place-replaced f a (Sym.error p) = refl

module _ (f : TextSpan → Text → WrittenSymbol) (b : Binding) (o : Text) (a : StandsAlone f) (c : CountsAlike f b o) where
  mutual
    -- those inside are replaced, with their numbers
    within-replaced : (k : ℕ) (x : WrittenSymbol) →
        symbols_within b o k (map_symbol (with_names f) x) ≡ map (replaced f) (symbols_within b o k x)
    within-replaced k (Sym.expr p xs) = row-replaced k xs
    within-replaced k (Sym.ambiguous_id p n) = a.alone b o k p n
    within-replaced k (Sym.nonterminal p n) = refl
    within-replaced k (Sym.terminal p t) = refl
    within-replaced k (Sym.macro p n args) = refl
    within-replaced k (Sym.repeat p op x) = ap (λ l. (k, map_symbol (with_names f) x) ∷ l) (within-replaced k x)
    within-replaced k (Sym.choose p x) = ap (λ l. (k, map_symbol (with_names f) x) ∷ l) (within-replaced k x)
    within-replaced k (Sym.name p m n x) = ap (λ l. (k, map_symbol (with_names f) x) ∷ l) (within-replaced k x)
    within-replaced k (Sym.lookahead p) = refl
    within-replaced k (Sym.lookbehind p) = refl
    within-replaced k (Sym.error p) = refl

    row-replaced : (k : ℕ) (xs : Syms TextSpan) →
        symbols_of_row b o k (map_symbols (with_names f) xs) ≡ map (replaced f) (symbols_of_row b o k xs)
    row-replaced k Syms.none = refl
    row-replaced k (Syms.more x xs) =
        let y = map_symbol (with_names f) x in
        let ys = map_symbols (with_names f) xs in
        ap (λ (j : ℕ). (k, y) ∷ symbols_within b o k y ++ symbols_of_row b o (k + j) ys) (count_kept f b o c x)
        ∙ ap (λ l. (k, y) ∷ l ++ symbols_of_row b o (k + occurrences b o x) ys) (within-replaced k x)
        ∙ ap (λ l. (k, y) ∷ map (replaced f) (symbols_within b o k x) ++ l) (row-replaced (k + occurrences b o x) xs)
        ∙ ap (λ l. (k, y) ∷ l)
        (join-map (replaced f) (symbols_within b o k x) (symbols_of_row b o (k + occurrences b o x) xs))

  listed-replaced : (k : ℕ) (xs : List WrittenSymbol) →
      counted_symbols b o k (map (map_symbol (with_names f)) xs) ≡ map (replaced f) (counted_symbols b o k xs)
  listed-replaced k [] = refl
  listed-replaced k (x ∷ xs) =
      let y = map_symbol (with_names f) x in
      ap (λ (j : ℕ). (k, y) ∷ counted_symbols b o (k + j) (map (map_symbol (with_names f)) xs)) (count_kept f b o c x)
      ∙ ap (λ l. (k, y) ∷ l) (listed-replaced (k + occurrences b o x) xs)

-- rules whose names are replaced so

-- Each rule's names are replaced by what closes and counts as they do, in any of its instances.
pub record ReplacesNames (w : RuleChange) (g h : EnabledGrammar) : Type 0 where
  pub changed : HasChangedRules w g h
  pub by : EnabledRule → TextSpan → Text → WrittenSymbol
  pub alone : (r : EnabledRule) → StandsAlone (by r)
  pub expr_is : (r : EnabledRule) (c : Choice) → w.expr r c ≡ map (map_symbol (with_names (by r))) c.expr
  pub counts : (n : Text) (r : EnabledRule) → IsRule g n r → (args : Closeds) → CountsAlike (by r) (bind r args) r.name
  pub closes : (n : Text) (r : EnabledRule) → IsRule g n r → (args : Closeds) → ClosesAlike (by r) g h (bind r args) r.name

module _ (w : RuleChange) (g h : EnabledGrammar) (m : ReplacesNames w g h) where
  pub keeps_sides : KeepsSides w g h
  keeps_sides n r i args p =
      side_kept w g h m.changed r (m.by r) (m.expr_is r) (bind r args) (m.counts n r i args) (m.closes n r i args) p

  -- the levels that occurrences may have

  above_kept : (r : EnabledRule) (q : Rank) (b : Bool) (t : Option ℕ) →
      allowed_level_above (changed_rule w r) q b t ≡ allowed_level_above r q b t
  above_kept r q b None = loosest_kept w m.changed.ranks r
  above_kept r q b (Some t) = refl

  allowed_kept : (r : EnabledRule) (rank : Option Rank) (n i : ℕ) →
      allowed_level (changed_rule w r) rank n i ≡ allowed_level r rank n i
  allowed_kept r None n i = loosest_kept w m.changed.ranks r
  allowed_kept r (Some q) n i =
      ap (λ (t : Option ℕ). allowed_level_above (changed_rule w r) q (reaches q.side n i) t)
      (tighter_kept w m.changed.ranks r q.level)
      ∙ above_kept r q (reaches q.side n i) (tighter r q.level)

  module _ (n : Text) (r : EnabledRule) (i : IsRule g n r) (args : Closeds) (c : Choice × Option Rank) where
    abbrev binding : Binding
    binding = bind r args

    abbrev number : List WrittenSymbol → ℕ
    number xs = occurrences_in binding r.name (syms xs)

    abbrev here : Scope
    here = scope_of g r binding c.0 c.1

    abbrev there : Scope
    there = scope_of h (changed_rule w r) binding (changed_pair w r c).0 c.1

    levels_kept : allowed_level (changed_rule w r) c.1 (number (w.expr r c.0)) ≡ allowed_level r c.1 (number c.0.expr)
    levels_kept =
        ap (λ xs. allowed_level (changed_rule w r) c.1 (number xs)) (m.expr_is r c.0)
        ∙ ap (allowed_level (changed_rule w r) c.1) (listed_counts_kept (m.by r) binding r.name (m.counts n r i args) c.0.expr)
        ∙ same
      where
        same : allowed_level (changed_rule w r) c.1 (number c.0.expr) ≡ allowed_level r c.1 (number c.0.expr)
        same = λ j k. allowed_kept r c.1 (number c.0.expr) k j

    closed_kept : (k : ℕ) (x : WrittenSymbol) → close there k (map_symbol (with_names (m.by r)) x) ≡ close here k x
    closed_kept k x =
        ap (λ e. close (scope_in h binding r.name e) k (map_symbol (with_names (m.by r)) x)) levels_kept
        ∙ close_kept w g h m.changed (m.by r) binding r.name (m.counts n r i args) (m.closes n r i args)
        (allowed_level r c.1 (number c.0.expr)) k x

    -- the symbols of an alternative go back
    goes_back : GoesBack here there (λ x. x) (λ z v. v ≡ replaced (m.by r) z)
    goes_back = record {
      placed = λ z v e. ap (λ (q : CountedSymbol). place_of_symbol q.1) e ∙ place-replaced (m.by r) (m.alone r) z.1;
      closed = λ z v e. ap (λ (q : CountedSymbol). close there q.0 q.1) e ∙ closed_kept z.0 z.1;
      inside = λ z v e u j. (
        replaced (m.by r) u,
        subst (λ (q : CountedSymbol). Among (symbols_within binding r.name q.0 q.1) (replaced (m.by r) u)) (sym e)
            (subst (λ l. Among l (replaced (m.by r) u))
            (sym (within-replaced (m.by r) binding r.name (m.alone r) (m.counts n r i args) z.0 z.1))
            (map_among (replaced (m.by r)) (symbols_within binding r.name z.0 z.1) u j)),
        refl,
      );
      behind = λ z v e q j.
          let u = among_map (replaced (m.by r)) (symbols_within binding r.name z.0 z.1) q
          (subst (λ l. Among l q) (within-replaced (m.by r) binding r.name (m.alone r) (m.counts n r i args) z.0 z.1)
          (subst (λ (v : CountedSymbol). Among (symbols_within binding r.name v.0 v.1) q) e j)) in
          (u.0, u.1, sym u.2);
      calls = λ x. map-itself (calls_in x);
    }

    -- and so does a place in it
    replaced_side : (x : Closed) (p : TextSpan) → IsPlaceInSide h (changed_rule w r) binding (changed_pair w r c) x p →
        IsPlaceInSide g r binding c x p
    replaced_side x p k =
        let u = side_back g h r (changed_rule w r) binding binding c (changed_pair w r c) (λ x. x)
        (λ z v. v ≡ replaced (m.by r) z) goes_back (λ x. refl) tops x p k in
        subst (λ (y : Closed). IsPlaceInSide g r binding c y p) (sym u.1) u.2
      where
        tops : (v : CountedSymbol) → Among (counted_symbols binding r.name 0 (w.expr r c.0)) v →
            (z : CountedSymbol) × Among (counted_symbols binding r.name 0 c.0.expr) z × (v ≡ replaced (m.by r) z)
        tops v j =
            let u = among_map (replaced (m.by r)) (counted_symbols binding r.name 0 c.0.expr) v
            (subst (λ l. Among l v) (ap (counted_symbols binding r.name 0) (m.expr_is r c.0)
            ∙ listed-replaced (m.by r) binding r.name (m.alone r) (m.counts n r i args) 0 c.0.expr) j) in
            (u.0, u.1, sym u.2)

  -- the place of a call in another
  place_before : (y x : Closed) (p : TextSpan) → IsPlaceOfCall h y x p → IsPlaceOfCall g y x p
  place_before y x p b = let u = rule_before w g h m.changed b.name b.rule b.fits.rule in of_rule u.0 u.1 u.2
    where
      of_choice : (r : EnabledRule) → IsRule g b.name r → changed_rule w r ≡ b.rule → (c : Choice × Option Rank) →
          Among (ranked_choices r) c → changed_pair w r c ≡ b.choice → IsPlaceOfCall g y x p
      of_choice r i e c k d = record {
        name = b.name;
        args = b.args;
        level = b.level;
        call_is = b.call_is;
        rule = r;
        choice = c;
        fits = fits_before w g h m.changed b.name b.args r c i k
            (subst (λ q. Fits h b.name b.args (changed_rule w r) q) (sym d)
            (subst (λ q. Fits h b.name b.args q b.choice) (sym e) b.fits));
        level_is = ap (λ (q : Choice × Option Rank). rank_level q.1) d ∙ b.level_is;
        place = replaced_side b.name r i b.args c x p
            (subst (λ (q : Choice × Option Rank). IsPlaceInSide h (changed_rule w r) (bind r b.args) q x p) (sym d)
            (subst (λ (q : EnabledRule). IsPlaceInSide h q (bind q b.args) b.choice x p) (sym e) b.place));
      }

      of_rule : (r : EnabledRule) → IsRule g b.name r → changed_rule w r ≡ b.rule → IsPlaceOfCall g y x p
      of_rule r i e =
          let c = among_map (changed_pair w r) (ranked_choices r) b.choice
          (subst (λ ps. Among ps b.choice) (ranked_kept w m.changed.ranks r)
          (subst (λ q. Among (ranked_choices q) b.choice) (sym e) b.fits.written)) in
          of_choice r i e c.0 c.1 c.2

  -- a pass to a tighter level, where each rule there is written here by that name, at that place
  pass_before : (d e : Grammar) → ((q : Rule) → Among (rules_of e.items) q →
      (r : Rule) × Among (rules_of d.items) r × (r.name ≡ q.name) × (r.span ≡ q.span)) →
      (y x : Closed) (p : TextSpan) → IsPassDownAt h e y x p → IsPassDownAt g d y x p
  pass_before d e written y x p b =
      let u = rule_before w g h m.changed b.name b.rule b.is_rule in
      let v = written b.written b.among in record {
        name = b.name;
        args = b.args;
        from = b.from;
        to = b.to;
        from_is = b.from_is;
        to_is = b.to_is;
        rule = u.0;
        is_rule = u.1;
        arguments = b.arguments ∙ ap (λ (q : EnabledRule). length q.parameters) (sym u.2);
        is_macro = λ none. b.is_macro (ap (λ (q : EnabledRule). q.parameters) (sym u.2) ∙ none);
        passes = sym (tighter_kept w m.changed.ranks u.0 b.from) ∙ ap (λ (q : EnabledRule). tighter q b.from) u.2 ∙ b.passes;
        written = v.0;
        among = v.1;
        name_is = v.2 ∙ b.name_is;
        span_is = v.3 ∙ b.span_is;
      }

  made_before : (depth : ℕ) (y : Closed) → IsMadeAt h depth y → IsMadeAt g depth y
  made_before zero y r = root_before w g h m.changed keeps_sides (Nonterminal.closed y) r
  made_before (suc k) y c = (changed_chains w g h m.changed keeps_sides (suc k) y).1 c

  -- what stands below a depth does so before
  pub written_before : (d e : Grammar) → ((q : Rule) → Among (rules_of e.items) q →
      (r : Rule) × Among (rules_of d.items) r × (r.name ≡ q.name) × (r.span ≡ q.span)) →
      (depth : ℕ) (x : Closed) (p : TextSpan) → IsWrittenBelow h e depth x p → IsWrittenBelow g d depth x p
  written_before d e written depth x p (y, made, place) = (y, made_before depth y made, go place)
    where
      go : IsWrittenIn h e y x p → IsWrittenIn g d y x p
      go (inl b) = inl (place_before y x p b)
      go (inr b) = inr (pass_before d e written y x p b)
