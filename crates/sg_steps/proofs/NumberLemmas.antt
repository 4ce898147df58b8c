-- Where the numbers of keys lie.
use Rattle.std.proofs.Common.{◌≡◌, ◌⊎◌, ℕ, ◌+◌, ◌-◌, ◌*◌, ◌/◌, ◌^◌, ◌<◌, ◌≤◌, arith, inl, inr}
use Rattle.std.proofs.lemmas.Bool.{cases_order}
use Rattle.sg_base.specs.Keys.{number}
use Rattle.sg_steps.specs.Calls.{pieces_of}
use Rattle.sg_records.specs.Numbers.{piece_number, play_number}

pub below_or : (a b : ℕ) → (a < b) ⊎ (b ≤ a)
below_or a b = elim (cases_order a b) [
  | inl e ↦ inr (omega arith)
  | inr (inl h) ↦ inl h
  | inr (inr h) ↦ inr (omega arith)
]

-- a number on one side of a bound isn't one on the other
pub apart_below : (a n b : ℕ) → n < b → b ≤ a → a ≡ n → ⊥
apart_below a n b lt le e = omega arith

pub apart_above : (a n b : ℕ) → a < b → b ≤ n → a ≡ n → ⊥
apart_above a n b lt le e = omega arith

pub lt_le : (a b c : ℕ) → a < b → b ≤ c → a < c
lt_le a b c lt le = omega arith

pub lt_lt : (a b c : ℕ) → a < b → b < c → a < c
lt_lt a b c x y = omega arith

pub le_le : (a b c : ℕ) → a ≤ b → b ≤ c → a ≤ c
le_le a b c x y = omega arith

pub eight_nine : number 8 0 0 ≤ number 9 0 0
eight_nine = omega arith

pub eight_ten : number 8 0 0 ≤ number 10 0 0
eight_ten = omega arith

pub nine_ten : number 9 0 0 ≤ number 10 0 0
nine_ten = omega arith

-- ---- rows of the tables

pub row_lt : (code id : ℕ) → code < 8 → id < 2 ^ 32 → number code id 0 < number 8 0 0
row_lt code id low fits = omega arith

pub code_one : (c id m : ℕ) → id < 2 ^ 32 → m < 2 ^ 32 → number c id 0 ≡ number 1 m 0 → c ≡ 1
code_one c id m fits low e = omega arith

pub id_one : (id m : ℕ) → number 1 id 0 ≡ number 1 m 0 → id ≡ m
id_one id m e = omega arith

-- ---- clients and epochs

pub client_ge : (c : ℕ) → number 8 0 0 ≤ number 8 c 0
client_ge c = omega arith

pub client_lt : (c : ℕ) → c < 2 ^ 32 → number 8 c 0 < number 9 0 0
client_lt c fits = omega arith

pub epoch_ge : (d e : ℕ) → number 9 0 0 ≤ number 9 d e
epoch_ge d e = omega arith

pub epoch_lt : (d e : ℕ) → d < 2 ^ 32 → e < 2 ^ 32 → number 9 d e < number 10 0 0
epoch_lt d e low small = omega arith

pub epoch_same : (d e a b : ℕ) → e < 2 ^ 32 → b < 2 ^ 32 → number 9 d e ≡ number 9 a b → (d ≡ a) × (e ≡ b)
epoch_same d e a b low small is = (omega arith, omega arith)

-- ---- plays and pieces

pub play_ge : (d e n : ℕ) → number 10 0 0 ≤ play_number d e n
play_ge d e n = omega arith

pub play_lt : (d e n : ℕ) → d < 2 ^ 32 → e < 2 ^ 32 → n < 2 ^ 64 → play_number d e n < number 11 0 0
play_lt d e n low small fits = omega arith

pub play_same : (d e n a b m : ℕ) → d < 2 ^ 32 → e < 2 ^ 32 → n < 2 ^ 64 → a < 2 ^ 32 → b < 2 ^ 32 → m < 2 ^ 64 → play_number d e n ≡ play_number a b m → (d ≡ a) × (e ≡ b) × (n ≡ m)
play_same d e n a b m x y z p q r is = (omega arith, omega arith, omega arith)

pub piece_ge : (m i : ℕ) → number 11 0 0 ≤ piece_number m i
piece_ge m i = omega arith

pub ten_eleven : number 10 0 0 ≤ number 11 0 0
ten_eleven = omega arith

pub piece_same : (m i j : ℕ) → piece_number m i ≡ piece_number m j → i ≡ j
piece_same m i j e = omega arith

pub piece_media : (m i n j : ℕ) → i < 2 ^ 64 → j < 2 ^ 64 → piece_number m i ≡ piece_number n j → m ≡ n
piece_media m i n j x y e = omega arith

pub pieces_few : (r : ℕ) → r < 2 ^ 32 → pieces_of r < 2 ^ 64
pieces_few r fits = omega arith

pub pieces_cover : (r i : ℕ) → pieces_of r ≤ i → r ≤ i * 65536
pieces_cover r i le = omega arith
