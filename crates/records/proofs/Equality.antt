-- The derived comparison of signals and of routes compares their numbers.
use Rattle.std.proofs.Common.{◌≡◌, refl}
use denote.Enum.Bare.{sameb}
use Rattle.records.specs.declared.Signal.{Signal}
use Rattle.records.specs.declared.Route.{Route}
use Rattle.records.specs.Numbers.{is_signal, is_route}
use Rattle.records.specs.contracts.Signal as signal
use Rattle.records.specs.contracts.Route as route

pub same_signal : (x wanted : Signal) → sameb signal.the_type x wanted ≡ is_signal wanted x
same_signal Signal.Main Signal.Main = refl
same_signal Signal.Main Signal.Distant = refl
same_signal Signal.Distant Signal.Main = refl
same_signal Signal.Distant Signal.Distant = refl

pub same_route : (x wanted : Route) → sameb route.the_type x wanted ≡ is_route wanted x
same_route Route.Straight Route.Straight = refl
same_route Route.Straight Route.Diverging = refl
same_route Route.Diverging Route.Straight = refl
same_route Route.Diverging Route.Diverging = refl
