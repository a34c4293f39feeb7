mod Sheet
