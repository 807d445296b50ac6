-- Where each condition of the calls that are made could be asked, none is wrong; for the pass.
use Rattle.std.proofs.Common.{◌≡◌, ap, sym, ◌∙◌, subst, inl, inr, map, length}
use Rattle.std.specs.Prelude.{Bool, Option, Some, None, zip}
use Rattle.std.proofs.lemmas.Bool.{true≢false}
use Rattle.lalrpop_grammar_symbols.specs.Symbols.{Text, Terminal, Closed, Closeds, closed_list}
use Rattle.lalrpop_grammar.specs.WrittenGrammar.{Condition}
use Rattle.lalrpop_grammar_language.specs.Among.{Among}
use Rattle.lalrpop_grammar_language.specs.Enabled.{EnabledGrammar, EnabledRule, Choice, IsRule}
use Rattle.lalrpop_grammar_language.specs.Levels.{Rank, ranked_choices}
use Rattle.lalrpop_grammar_language.specs.Admitting.{bind, rank_level}
use Rattle.lalrpop_grammar_language.proofs.PlaceLemmas.{among_map}
use Rattle.lalrpop_grammar_rules.specs.Finding.{IsReadIn, IsReadPattern, IsSearch, IsUnread}
use Rattle.lalrpop_norm_theory.specs.Premises.{HasNoLevels}
use Rattle.lalrpop_grammar_language.proofs.AmongLemmas.{map_among}
use Rattle.lalrpop_norm_theory.proofs.ExpansionListLemmas.{rule_there}
use Rattle.lalrpop_norm_theory.proofs.LevelLemmas.{no_rank}
use Rattle.lalrpop_norm_keys.specs.AskedConditions.{HasAskedConditions}
use Rattle.lalrpop_norm_keys.specs.MacroFaults.{ConditionError, IsAskable, IsConditionError, IsQuotedLiteral, IsUnreadOf}
use Rattle.lalrpop_norm_keys.proofs.OriginLemmas.{plain_grammar, plain_pair, plain_rule, plain_was, ranked_plain, rule_plain}
use Rattle.lalrpop_norm_keys.proofs.PlainGrammarLemmas.{chain_alike, root_alike}
use Rattle.lalrpop_norm_keys.proofs.RightCallLemmas.{HasRightCalls, IsRightCall, chain_right, root_right}
use Rattle.lalrpop_norm_chain.specs.MadeConditions.{HasWrongCondition, IsMade}

not_read : (answer : Option Bool) (deep : Bool) → IsReadPattern answer deep → IsUnread answer deep → ⊥
not_read answer deep r (inl e) = r.0 e
not_read answer deep r (inr e) = true≢false (sym e ∙ r.1)

-- one that could be asked isn't wrong
no_error : (finds : Text → Text → Option Bool) (deep : Text → Bool) (t : Condition) (value : Option Closed) (e : ConditionError)
    → IsQuotedLiteral value → IsReadIn finds deep t value → IsConditionError finds deep t value e → ⊥
no_error finds deep t value (ConditionError.no_literal p) q r e = e.1 q
no_error finds deep t value (ConditionError.no_pattern p) q r e = unread value q r e.1 e.2
  where
    unread : (v : Option Closed) → IsQuotedLiteral v → IsReadIn finds deep t v → IsSearch t.test → IsUnreadOf finds deep t.against v
        → ⊥
    unread (Some (Closed.terminal (Terminal.quoted s))) q r search u = not_read (finds t.against s) (deep t.against) (r search) u
    unread (Some (Closed.terminal (Terminal.regex s))) q r search u = q
    unread (Some (Closed.terminal (Terminal.bare n))) q r search u = q
    unread (Some (Closed.terminal Terminal.error)) q r search u = q
    unread (Some (Closed.call n args level)) q r search u = q
    unread (Some (Closed.repeat op x)) q r search u = q
    unread (Some (Closed.group xs)) q r search u = q
    unread (Some (Closed.choose x)) q r search u = q
    unread (Some (Closed.name m n x)) q r search u = q
    unread (Some Closed.lookahead) q r search u = q
    unread (Some Closed.lookbehind) q r search u = q
    unread (Some Closed.faulty) q r search u = q
    unread None q r search u = q
no_error finds deep t value ConditionError.other q r e = e

-- What could be asked could be in a grammar that differs by origins alone.
module _ (g h : EnabledGrammar) (alike : plain_grammar g ≡ plain_grammar h) (deep : Text → Bool) where
  made_back : (n : Text) (args : Closeds) → IsMade h (Closed.call n args None) → IsMade g (Closed.call n args None)
  made_back n args (inl r) = inl (root_alike h g (sym alike) (Closed.call n args None) r)
  made_back n args (inr c) = inr (c.0, chain_alike h g (sym alike) c.0 (Closed.call n args None) c.1)

  pub asks_there : HasAskedConditions g deep → HasAskedConditions h deep
  asks_there a n args m r is full p i =
      let w = plain_was g n (plain_rule r) (subst (λ k. IsRule k n (plain_rule r)) (sym alike) (rule_plain h n r is)) in
      let parameters : w.0.parameters ≡ r.parameters = ap (λ (k : EnabledRule). k.parameters) w.2 in
      let j : Among (map plain_pair (ranked_choices w.0)) (plain_pair p) =
      subst (λ ps. Among ps (plain_pair p)) (sym (ranked_plain r) ∙ ap ranked_choices (sym w.2) ∙ ranked_plain w.0)
      (map_among plain_pair (ranked_choices r) p i) in
      let v = among_map plain_pair (ranked_choices w.0) (plain_pair p) j in
      let there = a n args (made_back n args m) w.0 w.1 (full ∙ ap length (sym parameters)) v.0 v.1 in
      subst (λ (f : Text → Text → Option Bool). IsAskable f deep (bind r args) p.0.condition)
      (ap (λ (k : EnabledGrammar). k.finds) alike)
      (subst (λ b. IsAskable g.finds deep b p.0.condition) (ap (λ ps. zip ps (closed_list args)) parameters)
      (subst (IsAskable g.finds deep (bind w.0 args)) (ap (λ (k : Choice × Option Rank). k.0.condition) v.2) there))

-- a call that is made has as many arguments as its rule has parameters
arguments_full : (g : EnabledGrammar) → HasNoLevels g → (n : Text) (args : Closeds) (r : EnabledRule) → IsRule g n r
    → IsMade g (Closed.call n args None) → length (closed_list args) ≡ length r.parameters
arguments_full g flat n args r is made = counted (right made).0
  where
    right : IsMade g (Closed.call n args None) → HasRightCalls g (Closed.call n args None)
    right (inl root) = (root_right g flat (Closed.call n args None) root).0
    right (inr c) = chain_right g flat c.0 (Closed.call n args None) c.1

    counted : IsRightCall g n args None → length (closed_list args) ≡ length r.parameters
    counted k = let e : k.rule ≡ r = only k.rule k.is_rule in k.arguments ∙ ap (λ (q : EnabledRule). length q.parameters) e
      where
        only : (q : EnabledRule) → IsRule g n q → q ≡ r
        only q i = cc

-- so none of a grammar without levels is wrong
pub none_wrong : (g : EnabledGrammar) (deep : Text → Bool) → HasNoLevels g → HasAskedConditions g deep → (e : ConditionError)
    → HasWrongCondition g deep e → ⊥
none_wrong g deep flat a e u =
    let r = u.there.rule in
    let b = bind r u.args in
    let no_levels = flat r (rule_there g u.name r u.there.is_rule).0 in
    let level : u.level ≡ None = sym u.there.level_is ∙ ap rank_level (no_rank r u.there.choice no_levels u.there.among) in
    let made = subst (λ l. IsMade g (Closed.call u.name u.args l)) level u.made in
    let v = subst (IsAskable g.finds deep b) u.there.condition
    (a u.name u.args made r u.there.is_rule (arguments_full g flat u.name u.args r u.there.is_rule made) u.there.choice u.there.among) in
    no_error g.finds deep u.condition u.value e (subst IsQuotedLiteral u.there.value_is v.0)
    (subst (IsReadIn g.finds deep u.condition) u.there.value_is v.1) u.holds
