-- Two odometer reports, of which the second differs only in a higher speed: code, number and readings. Assumes nothing.
use Prim.Native.Nat.{ℕ, zero, suc, ◌+◌, ◌*◌, ◌^◌}
use mathlib.Core.Path.{◌≡◌, refl, sym, ◌∙◌, ap}
use mathlib.Core.List.{List, [], ◌∷◌}
use lib.ListN.{take, drop}
use lib.Seq.{drop-drop, get_or-drop}
use Rattle.wire.specs.Numbers.{byte_at, number, signed}
use Rattle.wire.specs.Form.{operands_of}
use Rattle.rules.specs.Operands.{code_byte, number_of, two_at, bit_of, reading_of}
use Rattle.rules.specs.Runs.{Sent}
use Rattle.rules.specs.TwoRuns.{Faster, InGear}
use Rattle.rules.proofs.TwoUnits.{ReadingsBelow}

-- a number is that of its own bytes
number_front : (n : ℕ) (s : List ℕ) → number n (take n s) ≡ number n s
unfolding number
number_front zero s = refl
number_front (suc n) [] = refl
number_front (suc n) (b ∷ bs) = ap (b * 256 ^ n +◌) (number_front n bs)

-- the code and the number lie in the first 5 bytes
front_number : (command : List ℕ) → number_of (take 5 command) ≡ number_of command
front_number [] = refl
front_number (b ∷ bs) = number_front 4 bs

front_code : (command : List ℕ) → code_byte (take 5 command) ≡ code_byte command
front_code [] = refl
front_code (b ∷ bs) = refl

-- the operands after the speed lie from byte 7 on
after_speed : (command : List ℕ) (k : ℕ) → drop (2 + k) (operands_of command) ≡ drop k (drop 7 command)
after_speed command k = sym (drop-drop k 2 (drop 5 command)) ∙ ap (drop k) (drop-drop 2 5 command)

buttons_at : (command : List ℕ) → byte_at (operands_of command) 8 ≡ byte_at (drop 7 command) 6
buttons_at command = get_or-drop 5 command 8 0 ∙ sym (get_or-drop 7 command 6 0)

module _ {x y : Sent} (faster : Faster x y) where
  pub same_code : code_byte y.command ≡ code_byte x.command
  same_code = sym (front_code y.command) ∙ ap code_byte faster.before ∙ front_code x.command

  pub same_number : number_of y.command ≡ number_of x.command
  same_number = sym (front_number y.command) ∙ ap number_of faster.before ∙ front_number x.command

  same_two : (k : ℕ) → two_at (operands_of y.command) (2 + k) ≡ two_at (operands_of x.command) (2 + k)
  same_two k = ap (number 2) (after_speed y.command k ∙ ap (drop k) faster.after ∙ sym (after_speed x.command k))

  same_buttons : byte_at (operands_of y.command) 8 ≡ byte_at (operands_of x.command) 8
  same_buttons = buttons_at y.command ∙ ap (λ s. byte_at s 6) faster.after ∙ sym (buttons_at x.command)

  pub same_moved : (reading_of (operands_of y.command)).moved ≡ (reading_of (operands_of x.command)).moved
  unfolding reading_of
  same_moved = same_two 0

  pub readings_below : InGear x y → ReadingsBelow (reading_of (operands_of x.command)) (reading_of (operands_of y.command))
  unfolding reading_of
  readings_below gear = record {
    speed = faster.speed;
    moved = same_two 0;
    measured = ap (signed 65536) (same_two 2);
    external = ap (signed 65536) (same_two 4);
    loss = ap (bit_of 0) same_buttons;
    text = ap (bit_of 1) same_buttons;
    halka = ap (bit_of 2) same_buttons;
    gear = gear;
  }
