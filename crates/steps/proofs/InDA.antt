-- The bytes of the report in DA, each by those before it. Assumes nothing.
use Prim.Native.Nat.{ℕ}
use mathlib.Core.Path.{◌≡◌, sym}
use mathlib.Core.Bool.{Bool}
use mathlib.Core.List.{List, [], ◌∷◌}
use Rattle.wire.specs.Numbers.{high_byte, low_byte, high_pair, low_pair}
use Rattle.curve.specs.declared.Judged.{Judged}
use Rattle.areas.specs.Numbers.{area_number}
use Rattle.rules.specs.declared.State.{State}
use Rattle.rules.specs.declared.Order.{Order}
use Rattle.rules.specs.declared.Seen.{Seen}
use Rattle.rules.specs.declared.Candidate.{Candidate}
use Rattle.rules.specs.declared.Stm.{Stm}
use Rattle.rules.specs.Numbers.{state_number, order_number}
use Rattle.rules.specs.Speeds.{permitted_speed}
use Rattle.rules.specs.Table.{order_of}
use Rattle.rules.specs.Odometer.{is_insufficient}
use Rattle.rules.specs.Reports.{causes_number, messages_of, offered_of, is_over, shown_fields, change_of, report_with}
use Rattle.track.specs.Among.{chosen_among}

pub bytes_in_da : (judged : List Judged) (vmax : ℕ) (seen : Seen) (stm : Stm)
    {number permitted change first last : ℕ} {candidate : Candidate} {over insufficient : Bool} {id interval bar mode state : ℕ}
    {order : Order} {orders h1 l1 h2 l2 h3 l3 messages offered h4 l4 h5 l5 area : ℕ}
    → candidate ≡ chosen_among stm.track.curves stm.track.records judged
    → over ≡ is_over stm.train stm.kept candidate
    → insufficient ≡ is_insufficient stm.train stm.feedback
    → (id ∷ interval ∷ bar ∷ mode ∷ []) ≡ shown_fields over insufficient candidate
    → number ≡ causes_number stm.brakes.causes
    → permitted ≡ permitted_speed vmax judged
    → change ≡ change_of stm.train stm.kept candidate
    → first ≡ high_pair change
    → last ≡ low_pair change
    → state ≡ state_number State.DA
    → order ≡ order_of stm.train.softly stm.brakes.causes
    → orders ≡ order_number order
    → h1 ≡ high_byte number
    → l1 ≡ low_byte number
    → h2 ≡ high_byte permitted
    → l2 ≡ low_byte permitted
    → h3 ≡ high_byte vmax
    → l3 ≡ low_byte vmax
    → messages ≡ messages_of stm.brakes stm.feedback stm.test candidate.et
    → offered ≡ offered_of seen stm.brakes.causes
    → h4 ≡ high_byte first
    → l4 ≡ low_byte first
    → h5 ≡ high_byte last
    → l5 ≡ low_byte last
    → area ≡ area_number stm.track.stay.area
    → (state ∷ orders ∷ h1 ∷ l1 ∷ h2 ∷ l2 ∷ h3 ∷ l3 ∷ id ∷ interval ∷ bar ∷ mode ∷ messages ∷ offered ∷ h4 ∷ l4 ∷ h5 ∷ l5 ∷ area ∷ [])
    ≡ report_with judged vmax (chosen_among stm.track.curves stm.track.records judged) seen stm
unfolding report_with
bytes_in_da judged vmax seen stm e1 e2 e3 e4 e5 e6 e7 e8 e9 e10 e11 e12 e13 e14 e15 e16 e17 e18 e19 e20 e21 e22 e23 e24 e25 =
    rw (sym e1, sym e2, sym e3, sym e4)
    (rw (e25, e24, e23, e22, e21, e20, e19, e18, e17, e16, e15, e14, e13, e12, e11, e10, e9, e8, e7, e6, e5))
