-- The tags of fields by number.
use Rattle.std.specs.Prelude.{◌≡◌, ℕ, MatchResult, Result}
use Rattle.sheets.specs.declared.tag.Tag.{Tag}
use Rattle.sheets.specs.declared.tag.Tag.TheVariants.{Class, Role, Inclusion, Exists, ExistsLower, Forall, RoleInclusion}
use Rattle.sheets.specs.declared.tag.UnknownTag.{UnknownTag}
use Rattle.sheets.specs.Sheets.{Known}

-- the number of each tag
abbrev pub tag_number : Tag → ℕ
tag_number Class = 1
tag_number Role = 2
tag_number Inclusion = 3
tag_number Exists = 4
tag_number ExistsLower = 5
tag_number Forall = 6
tag_number RoleInclusion = 7

-- a byte is the tag of its number, or no tag where no tag has it
abbrev pub Decodes : ℕ → Result Tag UnknownTag → Type 0
Decodes b r = MatchResult r (λ t. b ≡ tag_number t) (λ _. Known b → ⊥)
