-- The calls that changed a disk in memory, the newest first, and what they leave.
use Rattle.std.specs.Prelude.{◌≡◌, ◌⊎◌, ℕ, ◌+◌, ◌-◌, ◌≤◌, List, [], ◌∷◌, ◌++◌, length, take, replicate, fold, Bool, true, false}
use Rattle.sg_disk.specs.View.{put, Torn, Resized}
use Rattle.sg_disk.specs.declared.history.Call.{Call}
use Rattle.sg_disk.specs.declared.history.Call.TheVariants.{Write, Resize, Sync}
use Rattle.sg_disk.specs.declared.history.Pick.{Pick}
use Rattle.sg_disk.specs.declared.history.Pick.TheVariants.{Nothing, All, Byte}

-- the length n, with this byte behind the old end
abbrev pub resized : List ℕ → ℕ → ℕ → List ℕ
resized c n byte = take n c ++ replicate (n - length c) byte

-- the bytes after a call
abbrev pub after : Call → List ℕ → List ℕ
after (Write place written) c = put c place written.items
after (Resize n) c = resized c n 0
after Sync c = c

-- the end of the range that a call writes
abbrev pub end_of : Call → ℕ
end_of (Write place written) = place + length written.items
end_of call = 0

-- the length that a call asks for
abbrev pub room_of : Call → ℕ
room_of (Resize n) = n
room_of call = 0

abbrev pub is_sync : Call → Bool
is_sync Sync = true
is_sync call = false

-- what a read gives after these calls
abbrev pub read_of : List ℕ → List Call → List ℕ
read_of first [] = first
read_of first (call ∷ before) = after call (read_of first before)

-- each write was inside the length
abbrev pub Fits : List ℕ → List Call → Type 0
Fits first [] = Unit {0}
Fits first (call ∷ before) = (end_of call ≤ length (read_of first before)) × Fits first before

-- what a crash may leave after these calls
abbrev pub ImageOf : List ℕ → List Call → List ℕ → Type 0
ImageOf first [] c = c ≡ first
ImageOf first (Write place written ∷ before) c = (d : List ℕ) × ImageOf first before d
    × Torn place (length written.items) d c
ImageOf first (Resize n ∷ before) c = (d : List ℕ) × ImageOf first before d × Resized n d c
ImageOf first (Sync ∷ before) c = c ≡ read_of first before

-- what a crash after at least the first t of these calls may have left
abbrev pub ImageSince : List ℕ → List Call → ℕ → List ℕ → Type 0
ImageSince first [] t c = ImageOf first [] c
ImageSince first (call ∷ before) t c = ImageOf first (call ∷ before) c
    ⊎ ((t ≤ length before) × ImageSince first before t c)

-- an image after one call that no sync followed: nothing of it was done, all of it, or each byte that it wrote is one
abbrev pub torn_by : Pick → Call → List ℕ → List ℕ
torn_by Nothing call c = c
torn_by All call c = after call c
torn_by (Byte b) (Write place written) c = put c place (replicate (length written.items) b)
torn_by (Byte b) (Resize n) c = resized c n b
torn_by (Byte b) Sync c = c

-- the end of the range that an image shows written
abbrev pub end_by : Pick → Call → ℕ
end_by Nothing call = 0
end_by pick call = end_of call

-- one of the images after these calls: the bytes at the last sync, and each call since by the pick
abbrev pub picked : Pick → List ℕ → List Call → List ℕ
picked pick first [] = first
picked pick first (Sync ∷ before) = read_of first before
picked pick first (call ∷ before) = torn_by pick call (picked pick first before)

-- no call has come since the last sync, or since the first bytes
abbrev pub is_settled : List Call → Bool
is_settled [] = true
is_settled (call ∷ before) = is_sync call

-- the bytes after these calls, the oldest first
abbrev pub replayed : List ℕ → List Call → List ℕ
replayed c calls = fold (λ d call. after call d) c calls

-- an image after these calls, the oldest first, of which none is a sync
abbrev pub torn_replayed : Pick → List ℕ → List Call → List ℕ
torn_replayed pick c calls = fold (λ d call. torn_by pick call d) c calls
