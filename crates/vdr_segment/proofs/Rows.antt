-- Worked examples, computed: the bytes of a header, of a summary and of a batch.
use Rattle.std.proofs.Common.{◌≡◌, refl, pos, [], ◌∷◌, ◌++◌}
use Rattle.std.specs.Prelude.{codes, replicate}
use Rattle.vdr_bytes.specs.Numbers.{le_u16, le_u32, le_u64}
use Rattle.vdr_terms.specs.Records.Content.{Start, Datagram}
use Rattle.vdr_entry.specs.Spelling.{record_bytes, head, numbers}
use Rattle.vdr_segment.specs.Headers.{new_header, summary_bytes}
use Rattle.vdr_segment.specs.Batches.{batch_bytes}

header : new_header 2 40 ≡ 0 ∷ 0x02 ∷ 0 ∷ 0 ∷ 0 ∷ 0 ∷ 0 ∷ 0 ∷ 0 ∷ 0x28 ∷ 0 ∷ 0 ∷ 0 ∷ 0 ∷ 0 ∷ 0 ∷ 0 ∷ replicate 47 0
unfolding new_header le_u64
header = refl

summary : summary_bytes (record { count = 2; first_second = 86_400; last_second = 86_400; least_utc = pos 1_704_067_200_000; greatest_utc = pos 1_704_067_200_400; bits = 7 })
    ≡ 0x02 ∷ 0 ∷ 0 ∷ 0
    ∷ 0x80 ∷ 0x51 ∷ 0x01 ∷ 0 ∷ 0 ∷ 0 ∷ 0 ∷ 0
    ∷ 0x80 ∷ 0x51 ∷ 0x01 ∷ 0 ∷ 0 ∷ 0 ∷ 0 ∷ 0
    ∷ 0x00 ∷ 0xF4 ∷ 0x51 ∷ 0xC2 ∷ 0x8C ∷ 0x01 ∷ 0 ∷ 0
    ∷ 0x90 ∷ 0xF5 ∷ 0x51 ∷ 0xC2 ∷ 0x8C ∷ 0x01 ∷ 0 ∷ 0
    ∷ 0x07 ∷ 0 ∷ 0 ∷ 0 ∷ 0 ∷ 0 ∷ 0 ∷ 0 ∷ []
unfolding summary_bytes le_u32 le_u64
summary = refl

-- The Start of place 40 and a Datagram of NAVD at place 41, 400 milliseconds later.
batch : batch_bytes
    (record { content = Start; group = 255; bits = 7; place = 40; number = 0; tick = 86_400_000; utc = pos 1_704_067_200_000 }
    ∷ record { content = Datagram (codes "AbCdE" ++ 0 ∷ []); group = 3; bits = 5; place = 41; number = 0; tick = 86_400_400; utc = pos 1_704_067_200_400 }
    ∷ [])
    ≡ 0xA5 ∷ 0x5E ∷ 0 ∷ 0 ∷ 0
    ∷ 0x00 ∷ 0xFF ∷ 0 ∷ 0
    ∷ 0x07 ∷ 0 ∷ 0 ∷ 0 ∷ 0 ∷ 0 ∷ 0 ∷ 0
    ∷ 0x28 ∷ 0 ∷ 0 ∷ 0 ∷ 0 ∷ 0 ∷ 0 ∷ 0
    ∷ 0 ∷ 0 ∷ 0 ∷ 0 ∷ 0 ∷ 0 ∷ 0 ∷ 0
    ∷ 0x00 ∷ 0x5C ∷ 0x26 ∷ 0x05 ∷ 0 ∷ 0 ∷ 0 ∷ 0
    ∷ 0x00 ∷ 0xF4 ∷ 0x51 ∷ 0xC2 ∷ 0x8C ∷ 0x01 ∷ 0 ∷ 0
    ∷ 0x01 ∷ 0x03 ∷ 0x06 ∷ 0
    ∷ 0x05 ∷ 0 ∷ 0 ∷ 0 ∷ 0 ∷ 0 ∷ 0 ∷ 0
    ∷ 0x29 ∷ 0 ∷ 0 ∷ 0 ∷ 0 ∷ 0 ∷ 0 ∷ 0
    ∷ 0 ∷ 0 ∷ 0 ∷ 0 ∷ 0 ∷ 0 ∷ 0 ∷ 0
    ∷ 0x90 ∷ 0x5D ∷ 0x26 ∷ 0x05 ∷ 0 ∷ 0 ∷ 0 ∷ 0
    ∷ 0x90 ∷ 0xF5 ∷ 0x51 ∷ 0xC2 ∷ 0x8C ∷ 0x01 ∷ 0 ∷ 0
    ∷ 0x41 ∷ 0x62 ∷ 0x43 ∷ 0x64 ∷ 0x45 ∷ 0 ∷ []
unfolding batch_bytes record_bytes head numbers le_u16 le_u32 le_u64
batch = refl
