-- The words that name a capture file are cut at their second colon, and nowhere else.
use Rattle.std.proofs.Common.{◌≡◌, ℕ, ◌≤◌, Some, ap, ◌∙◌, arith, decimal}
use Rattle.std.specs.Str.Iter.{LacksByte}
use Rattle.ip_text.proofs.Decimals.{decimal_lacks}
use Rattle.pcap_packets.specs.declared.words.PcapSpec.{PcapSpec}

-- no colon stands in the number of an interface
pub iface_lacks : (iface : ℕ) → iface ≤ 65535 → LacksByte 58 (decimal iface)
iface_lacks iface within = decimal_lacks iface 58 (omega (arith, within)) (λ digit. omega arith)

abbrev spec_of : ℕ → ℕ → PcapSpec
spec_of iface from = record { iface = iface; from = from }

-- an interface and a place are the whole of what a word says
pub same_spec : (spec : PcapSpec) (iface from : ℕ) → Some iface ≡ Some spec.iface → from ≡ spec.from
    → Some (spec_of iface from) ≡ Some spec
same_spec spec iface from ifaces froms =
    let e : iface ≡ spec.iface = cc in
    ap (λ i. Some (spec_of i from)) e ∙ ap (λ n. Some (spec_of spec.iface n)) froms
