-- The pieces of the text are the text.
use Rattle.std.proofs.Common.{◌≡◌, ℕ, Bool, true, false, List, [], ◌∷◌, ◌++◌, Option, Some, None, refl, sym, ap, ◌∙◌, append_assoc, arith}
use Rattle.std.specs.Prelude.{map, codes, decimal, IfSome, IsSomeAnd}
use Rattle.serde_json.specs.Data.{Data, string}
use Rattle.std.proofs.lemmas.Fmt.{decimal_digit}
use Rattle.std.proofs.lemmas.List.{map-append}
use Rattle.serde_json.specs.View.{items_of, view}
use Rattle.serde_json.specs.declared.value.Value.{Value}
use Rattle.serde_json.specs.Written.{compact_text, items_text}
use Rattle.json.specs.Print.{escape_byte}
use Rattle.opfs_base.specs.Texts.{Text}
use Rattle.opfs_base.specs.Places.{Place}
use Rattle.opfs_image.specs.Filling.{filled, filled_row}
use Rattle.opfs_image.specs.declared.geometry.Geometry.{Geometry}
use Rattle.opfs_print.specs.Lines.{joined}
use Rattle.opfs_records.specs.Replay.Built.{Built}
use Rattle.opfs_tools.proofs.Walking.{gathered_more, gathered_all}
use Rattle.opfs_tree.specs.Rows.{Rows, rows_above}
use Rattle.opfs_tree.specs.declared.row.Row.{Row}
use Rattle.opfs_dump.specs.Text.Texts.{row_value, texts_value, folder_value, document_value, dump_text}
use Rattle.opfs_dump.specs.Dumping.Pieces.{head_text, head_by, tail_text, folder_text, before_digits, behind_digits, digits_text, row_text, rest_text}

-- a directory
pub folder_whole : (place : Place) → folder_text place ≡ compact_text (folder_value place)
unfolding folder_text escape_byte
folder_whole place = simp append_assoc

-- a file
pub document_whole : (place : Place) (bytes : Text) (stamp : ℕ)
    → before_digits ++ (digits_text bytes ++ behind_digits place stamp) ≡ compact_text (document_value place bytes stamp)
unfolding behind_digits escape_byte
document_whole place bytes stamp = simp append_assoc

-- a row more of a walk
pub rest_more : (later : Bool) (base : ℕ) (new : Option Place) (above rows : Rows) (r : Row) → IsSomeAnd new (λ place. above ≡ (place, r) ∷ rows_above (Some place) rows)
    → IfSome new (λ place. (c : List ℕ) → rest_text later base c above ≡ row_text later (place, filled_row base c r) ++ rest_text true base c (rows_above new rows))
unfolding rest_text
rest_more later base None above rows r next = tt
rest_more later base (Some p) above rows r next = λ c. ap (rest_text later base c) next

pub rest_none : (later : Bool) (base : ℕ) (c : List ℕ) (above : Rows) → above ≡ [] → rest_text later base c above ≡ tail_text
unfolding rest_text
rest_none later base c above none = ap (rest_text later base c) none

-- the rows and what stands behind them
pub rows_whole : (later : Bool) (base : ℕ) (c : List ℕ) (rows : Rows)
    → rest_text later base c rows ≡ items_text later (items_of (map row_value (map (λ e. (e.0, filled_row base c e.1)) rows))) ++ codes ",\"version\":2}\n"
unfolding rest_text
rows_whole later base c [] = refl
rows_whole later base c (e ∷ es) =
    ap (λ (t : Text). row_text later (e.0, filled_row base c e.1) ++ t) (rows_whole true base c es) ∙ simp append_assoc

whole_shape : (a b u q rows v : Text)
    → joined (codes "{\"areas\":" ∷ a ∷ codes ",\"blocks\":" ∷ b ∷ codes ",\"persistent\":" ∷ u ∷ codes ",\"quota\":" ∷ q ∷ codes ",\"rows\":[" ∷ []) ++ (rows ++ (codes ",\"version\":" ++ (v ++ codes "}\n")))
    ≡ (codes "{\"areas\":" ++ (a ++ (codes ",\"blocks\":" ++ (b ++ (codes ",\"persistent\":" ++ (u ++ (codes ",\"quota\":" ++ (q ++ (codes ",\"rows\":[" ++ (rows ++ (codes ",\"version\":" ++ (v ++ codes "}")))))))))))) ++ codes "\n"
whole_shape a b u q rows v = simp append_assoc

-- the whole
pub text_whole : (g : Geometry) (base : ℕ) (c : List ℕ) (b : Built)
    → head_text g b.persistent ++ rest_text false base c b.rows ≡ dump_text g (filled base c b)
unfolding head_by dump_text escape_byte
text_whole g base c b =
    let rows = items_text false (items_of (map row_value (filled base c b).rows)) in
    let units = compact_text (texts_value b.persistent) in
    let two : codes "2" ≡ decimal 2 = sym (decimal_digit 2 (omega arith)) in
    ap (λ (t : Text). head_text g b.persistent ++ t) (rows_whole false base c b.rows)
    ∙ (ap (λ (t : Text). head_text g b.persistent ++ (rows ++ (codes ",\"version\":" ++ (t ++ codes "}\n")))) two
    ∙ whole_shape (decimal g.areas) (decimal g.blocks) units (decimal g.quota) rows (decimal 2))

-- one unit more as a value
pub units_more : (values now : List Value) (v : Value) (left rest : List Text) (whole : List Data) (key : Text) → view v ≡ string key → now ≡ values ++ v ∷ [] → left ≡ key ∷ rest
    → map view values ++ map string left ≡ whole → map view now ++ map string rest ≡ whole
units_more values now v left rest whole key same pushed is so_far =
    gathered_more (map view values) (map string left) (map string rest) whole (map view now) (view v) (string key) same
    (ap (map view) pushed ∙ map-append view values (v ∷ [])) (ap (map string) is) so_far

pub units_all : (values : List Value) (left : List Text) (whole : List Data) → left ≡ [] → map view values ++ map string left ≡ whole → map view values ≡ whole
units_all values left whole none so_far = gathered_all (map view values) (map string left) whole (ap (map string) none) so_far
