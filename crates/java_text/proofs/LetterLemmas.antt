-- The table's values for ASCII are those of the short tests.
use Rattle.std.proofs.Common.{◌≡◌, ℕ, map, refl, ◌<◌}
use Rattle.lemmas.proofs.Tables.{below, same_below}
use Rattle.ucd_table.specs.Rows.{value_in}
use Rattle.unicode.specs.GeneralCategory.{general_category}
use Rattle.ucd_category.specs.GeneralCategoryRows.{general_category_rows}
use Rattle.java_text.specs.Letters.{is_start, is_part, is_white}
use Rattle.java_text.specs.Ascii.{is_ascii_start, is_ascii_part, is_ascii_white}

pub ascii_starts : map is_start (below 128) ≡ map is_ascii_start (below 128)
unfolding is_start general_category value_in general_category_rows
ascii_starts = refl

pub ascii_parts : map is_part (below 128) ≡ map is_ascii_part (below 128)
unfolding is_part general_category value_in general_category_rows
ascii_parts = refl

pub ascii_start : (c : ℕ) → c < 128 → is_start c ≡ is_ascii_start c
ascii_start c h = same_below is_start is_ascii_start 128 c ascii_starts h

pub ascii_part : (c : ℕ) → c < 128 → is_part c ≡ is_ascii_part c
ascii_part c h = same_below is_part is_ascii_part 128 c ascii_parts h

ascii_whites : map is_white (below 128) ≡ map is_ascii_white (below 128)
unfolding is_white general_category value_in general_category_rows
ascii_whites = refl

pub ascii_white : (c : ℕ) → c < 128 → is_white c ≡ is_ascii_white c
ascii_white c h = same_below is_white is_ascii_white 128 c ascii_whites h
