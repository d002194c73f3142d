-- The identity of an element (IEEE Std 802.11, 9.4.2.1): its ID, with its Element ID Extension or
-- none.
use Rattle.std.specs.Prelude.{ℕ, ◌==◌, ◌&&◌, if◌then◌else◌, Bool, true, false, Option, Some, None}
use Rattle.wl_elem.specs.declared.known.Known.{Known}
use Rattle.wl_elem.specs.declared.known.Known.TheVariants.{TidToLinkMapping, MultiLink}
use Rattle.wl_elem.specs.Element.{ElementValue, HasIdentity}

abbrev pub same_ext : Option ℕ → Option ℕ → Bool
same_ext None None = true
same_ext None (Some ext) = false
same_ext (Some ext) None = false
same_ext (Some ext) (Some other) = ext == other

abbrev pub has_identity : ℕ → Option ℕ → ElementValue → Bool
has_identity id ext e = (e.id == id) && same_ext e.ext ext

-- the ID of elements with an extension
abbrev pub extended_id : ℕ
extended_id = 255

-- the Element ID Extensions of the elements that are decoded

abbrev pub non_inheritance : ℕ
non_inheritance = 56

abbrev pub multi_link : ℕ
multi_link = 107

abbrev pub tid_to_link_mapping : ℕ
tid_to_link_mapping = 109

-- the element has ID 255 and this extension
abbrev pub HasExtension : ElementValue → ℕ → Type 0
HasExtension e ext = HasIdentity e extended_id (Some ext)

-- the TID-To-Link Mapping element
abbrev pub is_mapping : ElementValue → Bool
is_mapping e = has_identity extended_id (Some tid_to_link_mapping) e

-- the Multi-Link element
abbrev pub is_multi_link : ElementValue → Bool
is_multi_link e = has_identity extended_id (Some multi_link) e

-- the extension of an element that is decoded where it stands in a list
abbrev pub extension_of : Known → ℕ
extension_of TidToLinkMapping = tid_to_link_mapping
extension_of MultiLink = multi_link

-- which of those an element is
abbrev pub known_as : ElementValue → Option Known
known_as e = if is_mapping e then Some TidToLinkMapping else if is_multi_link e then Some MultiLink else None
