-- How the body of an UPDATE is laid out (RFC 4271, section 4.3).
use Rattle.std.specs.Prelude.{◌≡◌, ℕ, List, ◌++◌, length}
use Rattle.byteorder.specs.Endian.{big_number}

-- the text is a length of two octets, a field of that length, and then the rest
pub record IsCounted (text field rest : List ℕ) : Type 0 where
  pub size : List ℕ
  pub parts : text ≡ size ++ (field ++ rest)
  pub sized : length size ≡ 2
  pub counted : length field ≡ big_number 2 size

-- the body is the withdrawn routes after their length, the path attributes after theirs, and the NLRI
pub record IsLaidOut (body withdrawn attributes nlri : List ℕ) : Type 0 where
  pub rest : List ℕ
  pub first : IsCounted body withdrawn rest
  pub second : IsCounted rest attributes nlri
