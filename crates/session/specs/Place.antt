-- Where a media number stands and what becomes of a repair: for each case of the code's enums the case of `model`.
use Rattle.model.specs.Rules as Rules
use Rattle.model.specs.Push as Push
use Rattle.session.specs.declared.push.Place.{Place}
use Rattle.session.specs.declared.rtx.Fate.{Fate}

unfoldable pub place : Place → Rules.Place
place Place.First = Rules.first
place (Place.Near h) = Rules.near h.0
place (Place.Far h) = Rules.far h.0
place Place.Fills = Rules.fills
place Place.Other = Rules.other

unfoldable pub fate : Fate → Push.Fate
fate Fate.TooLate = Push.too_late
fate Fate.Recovered = Push.recovered
fate Fate.Redundant = Push.redundant
