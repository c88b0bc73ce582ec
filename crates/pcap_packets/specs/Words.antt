-- The words that name a capture file. Our own choice.
use Rattle.std.specs.Prelude.{◌≡◌, ◌+◌, ◌<◌, ◌≤◌, ℕ, List, ◌∷◌, ◌++◌, length, decimal}
use Rattle.pcap_packets.specs.declared.words.PcapSpec.{PcapSpec}

-- the word is `pcap:I:FILE`, with an interface up to 65535 in decimal without leading zeros, and the file's name, which
-- is not empty, stands from this place on
pub record SpellsPcap (word : List ℕ) (spec : PcapSpec) : Type 0 where
  pub file : List ℕ
  pub some : 0 < length file
  pub iface : spec.iface ≤ 65535
  pub from : spec.from + length file ≡ length word
  pub parts : word ≡ 112 ∷ 99 ∷ 97 ∷ 112 ∷ 58 ∷ decimal spec.iface ++ (58 ∷ file)
