use Rattle.std.proofs.Common.{◌≡◌, ◌+◌, ◌∷◌, ◌++◌, length, refl, ap, append_assoc, length-append, arith}
use Rattle.std.specs.List.{flat_map, range_with_len}
use Rattle.byteorder.specs.Endian.{big_bytes}
use Rattle.feed_io.specs.Generated.{prefix_field}
use Rattle.feed_io.proofs.Generated.{prefixes_length, prefixes_more}
use Rattle.feed_io.proofs.messages.append_prefixes.Goals as goal

pub append-requires : goal.append-requires
append-requires c =
    let so_far = flat_map prefix_field (range_with_len c.args.first c.loop-k.k) in
    omega (
      arith,
      ap length c.loop-k.invariant,
      length-append c.args.message.now so_far,
      prefixes_length c.args.first c.loop-k.k,
      c.requires.room,
      c.requires.count,
      c.loop-k-test.true,
    )

pub loop-k-preserved : goal.loop-k-preserved
loop-k-preserved c =
    let first = c.args.first in
    let k = c.loop-k.k in
    let so_far = flat_map prefix_field (range_with_len first k) in
    let number : 65536 + first + k ≡ 65536 + (first + k) = omega arith in
    rw (c.append.ensures, c.loop-k.invariant, prefixes_more first k _ refl, append_assoc, c.to_be_bytes.ensures)
    (ap (λ n. c.args.message.now ++ (so_far ++ (24 ∷ big_bytes 3 n))) number)
