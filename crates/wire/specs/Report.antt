-- The fields of a report, read from its bytes (01, "Report"; 02, F-1 and F-6).
use Rattle.std.specs.Prelude.{ℕ, List, drop}
use Rattle.wire.specs.Numbers.{byte_at, number}

abbrev pub state_in : List ℕ → ℕ
state_in report = byte_at report 0

abbrev pub order_in : List ℕ → ℕ
order_in report = byte_at report 1

abbrev pub causes_in : List ℕ → ℕ
causes_in report = number 2 (drop 2 report)

abbrev pub permitted_in : List ℕ → ℕ
permitted_in report = number 2 (drop 4 report)

abbrev pub vmax_in : List ℕ → ℕ
vmax_in report = number 2 (drop 6 report)

abbrev pub id_in : List ℕ → ℕ
id_in report = byte_at report 8

abbrev pub shown_in : List ℕ → ℕ
shown_in report = byte_at report 9

abbrev pub bar_in : List ℕ → ℕ
bar_in report = byte_at report 10

abbrev pub mode_in : List ℕ → ℕ
mode_in report = byte_at report 11

abbrev pub messages_in : List ℕ → ℕ
messages_in report = byte_at report 12

abbrev pub offered_in : List ℕ → ℕ
offered_in report = byte_at report 13

-- 02, F-1: "four bytes"
abbrev pub change_in : List ℕ → ℕ
change_in report = number 4 (drop 14 report)

-- 02, F-6: "a last byte with the area"
abbrev pub area_in : List ℕ → ℕ
area_in report = byte_at report 18
