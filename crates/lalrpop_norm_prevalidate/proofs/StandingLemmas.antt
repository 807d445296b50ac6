-- What a search finds stands as a fault, and where it finds nothing none stands; for the first pass.
use Rattle.std.proofs.Common.{◌≡◌, sym}
use Rattle.std.specs.Prelude.{Some, None, Result, Ok, Err, OnOk, flat_map}
use Rattle.lalrpop_grammar_symbols.specs.Symbols.{Text, TextSpan}
use Rattle.lalrpop_grammar.specs.WrittenGrammar.{Attr, attr_id, Grammar}
use Rattle.lalrpop_grammar_repr.specs.declared.norm_error.NormErrorKind.TheVariants as kinds
use Rattle.lalrpop_norm_prevalidate.specs.Attributes.{attr_span, unknown_attributes}
use Rattle.lalrpop_norm_prevalidate.specs.Faults.{CheckStands, StandsNowhere, HasNoCheckFault}
use Rattle.lalrpop_norm_prevalidate.specs.Firsts.{first_of}
use Rattle.lalrpop_norm_prevalidate.specs.Names.{first_reserved, names_in_item}
use Rattle.lalrpop_norm_prevalidate.proofs.FaultLemmas.{first-Among, none-Among, first-reserved, none-reserved}

-- an attribute that may not stand where it does
pub unknown-stands : (g : Grammar) (a : Attr) (name : Text) (p : TextSpan)
    → first_of (unknown_attributes g.attributes g.items) ≡ Some a → name ≡ attr_id a → p ≡ attr_span a
    → CheckStands (kinds.UnknownAttribute name) p g
unknown-stands g a name p first id place =
    record { attribute = a; among = first-Among (unknown_attributes g.attributes g.items) a first; id = sym id; place = sym place }

-- where the search for unknown attributes finds none, no fault of that kind stands in the grammar
pub no-unknown-stands : (g : Grammar) → first_of (unknown_attributes g.attributes g.items) ≡ None
    → (name : Text) → StandsNowhere (kinds.UnknownAttribute name) g
no-unknown-stands g none name p standing =
    none-Among (unknown_attributes g.attributes g.items) standing.attribute none standing.among

-- a name that begins with the prefix
pub reserved-stands : (g : Grammar) (p : TextSpan) → first_reserved g.prefix (flat_map names_in_item g.items) ≡ Some p
    → CheckStands kinds.ReservedPrefix p g
reserved-stands g p h =
    let found = first-reserved g.prefix (flat_map names_in_item g.items) p h in
    record { told = found.0; among = found.1.0; begins = found.1.1; place = found.1.2 }

-- where the search for names with the prefix finds none, no fault of that kind stands in the grammar
pub no-reserved-stands : (g : Grammar) → first_reserved g.prefix (flat_map names_in_item g.items) ≡ None
    → StandsNowhere kinds.ReservedPrefix g
no-reserved-stands g h p standing =
    none-reserved g.prefix (flat_map names_in_item g.items) standing.told h standing.begins standing.among

-- where no fault of the pass's kinds stands, none stands at all
pub none-stands : (g : Grammar) → StandsNowhere kinds.SecondMatchBlock g
    → ((name : Text) → StandsNowhere (kinds.UnknownAttribute name) g) → StandsNowhere kinds.PublicInline g
    → StandsNowhere kinds.ReservedPrefix g → StandsNowhere kinds.NamedNotAllowed g → StandsNowhere kinds.EntryTwice g
    → HasNoCheckFault g
none-stands g blocks attributes inlines names labels entries kinds.SecondMatchBlock p h = blocks p h
none-stands g blocks attributes inlines names labels entries (kinds.UnknownAttribute name) p h = attributes name p h
none-stands g blocks attributes inlines names labels entries kinds.PublicInline p h = inlines p h
none-stands g blocks attributes inlines names labels entries kinds.ReservedPrefix p h = names p h
none-stands g blocks attributes inlines names labels entries kinds.NamedNotAllowed p h = labels p h
none-stands g blocks attributes inlines names labels entries kinds.EntryTwice p h = entries p h
none-stands g blocks attributes inlines names labels entries (kinds.DuplicateDefinition name) p h = h
none-stands g blocks attributes inlines names labels entries kinds.FirstWithoutLevel p h = h
none-stands g blocks attributes inlines names labels entries kinds.LevelIsNoNumber p h = h
none-stands g blocks attributes inlines names labels entries kinds.SideOnTightestLevel p h = h
none-stands g blocks attributes inlines names labels entries kinds.UnknownSide p h = h
none-stands g blocks attributes inlines names labels entries (kinds.NoDefinition name) p h = h
none-stands g blocks attributes inlines names labels entries kinds.WrongNumberOfArguments p h = h
none-stands g blocks attributes inlines names labels entries kinds.MacroAsRule p h = h
none-stands g blocks attributes inlines names labels entries (kinds.MacroDepth limit) p h = h
none-stands g blocks attributes inlines names labels entries kinds.ConditionOnOther p h = h
none-stands g blocks attributes inlines names labels entries kinds.ConditionPattern p h = h
none-stands g blocks attributes inlines names labels entries (kinds.NotInMatchBlock literal) p h = h
none-stands g blocks attributes inlines names labels entries (kinds.PatternRefused literal) p h = h
none-stands g blocks attributes inlines names labels entries (kinds.SameText first second) p h = h
none-stands g blocks attributes inlines names labels entries kinds.TypesDisagree p h = h
none-stands g blocks attributes inlines names labels entries (kinds.NoType name) p h = h
none-stands g blocks attributes inlines names labels entries kinds.TooManyActions p h = h
none-stands g blocks attributes inlines names labels entries (kinds.CyclicInline name) p h = h

-- the same of what the last search answers
pub none-stands-on-ok : {A E : Type 0} (g : Grammar) (r : Result A E) → StandsNowhere kinds.SecondMatchBlock g
    → ((name : Text) → StandsNowhere (kinds.UnknownAttribute name) g) → StandsNowhere kinds.PublicInline g
    → StandsNowhere kinds.ReservedPrefix g → StandsNowhere kinds.NamedNotAllowed g
    → OnOk r (StandsNowhere kinds.EntryTwice g) → OnOk r (HasNoCheckFault g)
none-stands-on-ok g (Ok x) blocks attributes inlines names labels entries =
    none-stands g blocks attributes inlines names labels entries
none-stands-on-ok g (Err e) blocks attributes inlines names labels entries = entries
