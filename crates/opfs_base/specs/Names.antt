-- File names (File System: valid file name). Only `/` separates. The limits are this project's own.
use Rattle.std.specs.Prelude.{◌==◌, nat_le, Bool, not, ◌&&◌, List, [], length, codes}
use Rattle.std.specs.List.{list_any}
use Rattle.opfs_base.specs.Texts.{Text, same_text}

-- Whether a text is a valid file name: it is not empty, not `.` and not `..`, and holds no `/`.
abbrev pub is_valid_name : Text → Bool
is_valid_name name =
    not (same_text name []) && not (same_text name (codes ".")) && not (same_text name (codes ".."))
    && not (list_any (λ byte. byte == 47) name)

-- Whether a child of this name and path may be made: at most 255 bytes, and at most 32 names.
abbrev pub fits_limits : Text → List Text → Bool
fits_limits name path = nat_le (length name) 255 && nat_le (length path) 32
